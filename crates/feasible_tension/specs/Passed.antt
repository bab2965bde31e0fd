-- A tension that is outside the ends of a span: above the upper end, which bounds the forward step, or below the lower end,
-- which bounds the backward step.
use Rattle.std.specs.Prelude.{◌≡◌, ℕ, ℤ, neg_ℤ, ◌<ℤ◌, if◌then◌else◌}
use Rattle.theory.specs.declared.ext.Ext.{Ext}
use Rattle.theory.specs.declared.ext.Ext.TheVariants.{At}
use Rattle.theory.specs.declared.network.Step.{Step}
use Rattle.theory.specs.Ends.{negated}

pub record IsPassedBy (arc : ℕ) (low high : Ext) (tension : ℤ) (s : Step) (length : ℤ) : Type 0 where
  pub over_arc : s.arc.0 ≡ arc
  pub length_is : (if s.forward then high else (negated low)) ≡ At length
  pub passed : length <ℤ (if s.forward then tension else (neg_ℤ tension))
