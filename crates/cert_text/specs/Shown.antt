-- A certificate of the program as the theory's.
use Rattle.theory.specs.Certificate as theory
use Rattle.theory.specs.Certificate.Certificate.{optimal, cut, circuit}
use Rattle.cert_text.specs.declared.certificate.Certificate.{Certificate}
use Rattle.cert_text.specs.declared.certificate.Certificate.TheVariants.{Optimal, Cut, Circuit}

abbrev pub shown : Certificate → theory.Certificate
shown (Optimal x u cost value) = optimal x u cost value
shown (Cut side capacity) = cut side capacity
shown (Circuit x walk span) = circuit x walk span
