use Rattle.std.proofs.Common.{◌-◌, ◌+◌, length, take, drop, ap, ◌∙◌, arith, ◌≡◌}
use Rattle.std.proofs.lemmas.List.{take_rest}
use Rattle.cert_text.proofs.WordEnds.{space_is, word_cut, space_there}
use Rattle.cert_text.proofs.lines.split_last_word.Goals as goal

pub returns-then-bytes-place-eq32 : goal.returns-then-bytes-place-eq32
returns-then-bytes-place-eq32 c = λ front word plain is.
    let bytes = c.args.bytes.now in
    let place = c.loop-place.place - 1 in
    let at : place ≡ length front =
    space_is bytes front word plain is place (omega arith) c.if-bytes-place-eq32.true (λ k above here. c.loop-place.invariant k (omega arith) here) in
    let cut = word_cut bytes front word plain is in
    (ap (λ n. take n bytes) at ∙ cut.0, take_rest bytes (place + 1) ∙ ap (λ n. drop (n + 1) bytes) at ∙ cut.1)

pub returns : goal.returns
returns c = λ front word plain is.
    absurd (space_there c.args.bytes.now front word plain is (λ k here. c.loop-place.invariant k (omega arith) here))
