pub mod ChoiceLaws
