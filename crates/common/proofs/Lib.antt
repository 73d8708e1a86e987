pub mod CommonLaws
