use Rattle.cert_text.proofs.OneCertificate as law
use Rattle.cert_text.proofs.text_laws.one_certificate.Goals as goal

pub returns : goal.returns
returns c = law.one_certificate
