-- Laws of the steps of a reader.
mod StepLaws
pub mod FormLaws
