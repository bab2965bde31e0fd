-- The kind of a certificate.
use Rattle.theory.specs.Certificate.{Certificate}
use Rattle.theory.specs.Certificate.Certificate.{optimal, cut, circuit}
use Rattle.warm_solve.specs.declared.kind.Kind.{Kind}
use Rattle.warm_solve.specs.declared.kind.Kind.TheVariants.{Optimal, Cut, Circuit}

abbrev pub kind_of : Certificate → Kind
kind_of (optimal x u cost value) = Optimal
kind_of (cut side capacity) = Cut
kind_of (circuit x walk span) = Circuit
