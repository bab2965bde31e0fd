use Rattle.cert_text.proofs.OneText as law
use Rattle.cert_text.proofs.text_laws.bad_line_has_none.Goals as goal

pub returns : goal.returns
returns c = law.bad_line_has_none
