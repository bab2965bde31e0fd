-- The bytes that were answered are those of the file.
use Rattle.std.proofs.Common.{Ok}
use Rattle.outside_io.specs.Seen.{since}
use Rattle.mono_top.specs.Fetch.{Fetches}
use Rattle.mono_top.specs.CountsReadings.{ReadsChangesText}
use Rattle.mono_top.specs.declared.fetch.Fetched.TheVariants.{Bytes}
use Rattle.mono_top.specs.declared.lines.Place.TheVariants.{Second}
use Rattle.mono_top.proofs.ResolveLemmas.{reads_file}
use Rattle.mono_top.proofs.resolve.resolve.Goals as goal

pub returns-in_ok-resolve_text-in-Bytes-clause-changes : goal.returns-in_ok-resolve_text-in-Bytes-clause-changes
returns-in_ok-resolve_text-in-Bytes-clause-changes g c =
    let old = g.S.Shelf.seen c.args.shelf.now in
    let fetched : Fetches Second c.args.changes.now (since old (g.S.Shelf.seen c.fetch.new.shelf)) (Ok (Bytes c.in-Bytes.text)) =
    rw c.in-Bytes.is at c.in_ok-text.ensures.fetches in
    let reads : ReadsChangesText c.args.model.now.scale c.args.model.now.entries c.in-Bytes.text c.args.steps.now c.resolve_text.new.steps =
    rw c.as_slice.ensures at c.resolve_text.ensures.readings in
    reads_file old.holds c.args.changes.now c.args.model.now.scale c.args.model.now.entries c.in-Bytes.text c.args.steps.now c.resolve_text.new.steps fetched.0 fetched.1 reads
