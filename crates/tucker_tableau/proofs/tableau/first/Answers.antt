use Rattle.std.proofs.Common.{◌≡◌, ◌-◌, ◌*◌, ap, length}
use Rattle.tucker_tableau.specs.Table.{Table}
use Rattle.tucker_tableau.specs.First.{IsFirst}
use Rattle.tucker_tableau.specs.Kept.{IsCounting}
use Rattle.tucker_tableau.proofs.Tables.{first_is, first_kept, first_of, first_ground}
use Rattle.tucker_tableau.proofs.tableau.first.Goals as goal

made : (c : goal.In_ok-numbers-2) → IsFirst c.args.g.now.network (record { rows = c.in_ok-numbers.field-0.items; columns = c.in_ok-numbers-2.field-0.items; entries = c.in_ok-entries.entries.items })
made c =
    let n = c.nodes-rows.result - 1 in
    let m = c.arcs.result - n in
    first_is c.args.g.now.network c.net-net.result.now c.in_ok-numbers.field-0.items c.in_ok-numbers-2.field-0.items c.in_ok-entries.entries.items n m
    c.net-net.ensures c.args.g.now.good (ap (λ k. k - 1) c.nodes-rows.ensures) (ap (λ k. k - n) c.arcs.ensures)
    c.in_ok-numbers.ensures c.in_ok-numbers-2.ensures c.in_ok-entries.ensures

pub invariant_of-result : goal.invariant_of-result
invariant_of-result c =
    let table : Table = record { rows = c.in_ok-numbers.field-0.items; columns = c.in_ok-numbers-2.field-0.items; entries = c.in_ok-entries.entries.items } in
    let n = c.nodes-rows.result - 1 in
    let m = c.arcs.result - n in
    let rows : IsCounting 0 n table.rows = c.in_ok-numbers.ensures in
    let columns : IsCounting n m table.columns = c.in_ok-numbers-2.ensures in
    let size : length table.entries ≡ n * m = (let e = c.in_ok-entries.ensures in e.size) in
    first_kept c.args.g.now.network table n m c.args.g.now.good c.requires (made c) rows.size columns.size size

pub returns-clause-tableau : goal.returns-clause-tableau
returns-clause-tableau c =
    let table : Table = record { rows = c.in_ok-numbers.field-0.items; columns = c.in_ok-numbers-2.field-0.items; entries = c.in_ok-entries.entries.items } in
    first_of c.args.g.now.network table c.args.g.now.good (made c)

pub returns-clause-ground : goal.returns-clause-ground
returns-clause-ground c =
    let table : Table = record { rows = c.in_ok-numbers.field-0.items; columns = c.in_ok-numbers-2.field-0.items; entries = c.in_ok-entries.entries.items } in
    first_ground c.args.g.now.network table (made c)
