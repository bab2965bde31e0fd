pub mod StateLemmas
pub mod ListLemmas
pub mod NameLemmas
pub mod CurveLemmas
pub mod NodeSteps
pub mod ArcSteps
pub mod TrialLaws
