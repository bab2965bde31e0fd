use Rattle.std.proofs.Common.{rules, ◌≡◌, [], ◌∷◌, ◌++◌, false, None, is_some, ap, ◌∙◌}
use Rattle.outside_io.specs.Files.{file_of, files_of}
use Rattle.outside_io.proofs.Entries.{found_with_file}
use Rattle.outside_io.proofs.Added.{holds_one_more, nothing_left}
use Rattle.outside_io.proofs.memory_shelf.MemoryShelf.put.Goals as goal

pub returns-clause-ok : goal.returns-clause-ok
returns-clause-ok c =
    let files = c.self.inside.files.items in
    let fresh : file_of (files_of files) c.args.name.now ≡ None = ap (λ s. file_of s.holds c.args.name.now) c.self.view_is ∙ c.requires.fresh in
    let idle : is_some c.self.inside.place ≡ false = ap (λ s. s.started) c.self.view_is ∙ c.requires.idle in
    let one_more : c.push.new.self.items ≡ files ++ (c.args.name.now, c.args.bytes.now) ∷ [] = search rules in
    let holds = holds_one_more _ _ _ _ fresh one_more in
    let rest = nothing_left files c.push.new.self.items c.self.inside.place idle in
    rw (← c.self.view_is, holds, rest) (cc)

pub returns-clause-found : goal.returns-clause-found
returns-clause-found c =
    λ q.
    let files = c.self.inside.files.items in
    let fresh : file_of (files_of files) c.args.name.now ≡ None = ap (λ s. file_of s.holds c.args.name.now) c.self.view_is ∙ c.requires.fresh in
    let one_more : c.push.new.self.items ≡ files ++ (c.args.name.now, c.args.bytes.now) ∷ [] = search rules in
    rw (← c.self.view_is, holds_one_more _ _ _ _ fresh one_more) (found_with_file (files_of files) _ _ q)
