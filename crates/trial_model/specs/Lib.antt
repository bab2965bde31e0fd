pub mod Generator
pub mod Trial
pub mod TrialLaws
