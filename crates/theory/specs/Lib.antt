-- Definitions, a module a notion. What has no field of its own:
pub mod First
pub mod Sums
-- Curves:
pub mod Ends
pub mod CurveList
pub mod Domain
pub mod Cost
pub mod Span
pub mod ConjugateCost
pub mod OnCurve
pub mod Views
pub mod Readings
pub mod Limits
pub mod PartialSum
pub mod PieceAt
-- Laws of curves:
pub mod CurveLaws
pub mod ViewLaws
pub mod ReadingLaws
-- Networks:
pub mod Network
pub mod Conserved
pub mod Feasible
pub mod Totals
pub mod Best
pub mod Cut
pub mod Circuit
pub mod Sent
pub mod Painting
pub mod Grounded
pub mod Certificate
pub mod ReadingBound
pub mod Tucker
-- Laws of networks and certificates:
pub mod NetworkLaws
pub mod CertificateLaws
-- Worked examples:
pub mod Examples
