use Rattle.cert_text.proofs.OneText as law
use Rattle.cert_text.proofs.text_laws.one_bad_line.Goals as goal

pub returns : goal.returns
returns c = law.one_bad_line
