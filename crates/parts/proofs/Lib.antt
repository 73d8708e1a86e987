pub mod StepPartLaws
