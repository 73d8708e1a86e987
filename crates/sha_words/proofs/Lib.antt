pub mod BlockLaws
pub mod ChainLaws
pub mod SizedLaws
pub mod PaddingLaws
pub mod ValueLaws
pub mod DigestLaws
pub mod ConstantLaws
pub mod Examples
