-- A net as it is seen, and the steps at a node:
pub mod Graph
pub mod Incidence
-- The network of curve lists alone:
pub mod WithoutBases
-- Along a step, and where a walk fails:
pub mod FlowAlong
pub mod BadStep
-- Sums of ends:
pub mod PartOf
pub mod SumAnswers
