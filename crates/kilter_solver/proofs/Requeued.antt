-- What is said of a search doesn't speak of its queue, so it stays where nothing but the queue has changed.
use Rattle.std.proofs.Common.{◌≡◌, ℕ, ◌+◌, ◌*◌, List, length, refl, sym, ap, ◌∙◌, subst, arith}
use Rattle.std.proofs.lemmas.Int.{ints}
use Rattle.theory.specs.declared.ext.Ext.{Ext}
use Rattle.net_incidence.specs.Graph.{Graph}
use Rattle.painted_search.specs.Room.{Room}
use Rattle.painted_search.proofs.Rooms.{Lists, lists, room-same}
use Rattle.kilter_solver.specs.Spread.{is_near, WayTo, Spread, IsLater, IsSameButQueue}

abbrev pub requeued : (u : Room) (q : List ℕ) → length q ≡ 2 * u.nodes + 1 → Room
requeued u q long = record u { queue = q; two_slots_each = long }

pub record IsRequeued (u w : Room) : Type 0 where
  pub queue : List ℕ
  pub long : length queue ≡ 2 * u.nodes + 1
  pub is : w ≡ requeued u queue long

pub requeued-is : (u w : Room) → IsSameButQueue u w → IsRequeued u w
requeued-is u w same =
    let long : length w.queue ≡ 2 * u.nodes + 1 = w.two_slots_each ∙ ap (λ n. 2 * n + 1) same.nodes in
    let to : Lists = lists (requeued u w.queue long) in
    record {
      queue = w.queue;
      long = long;
      is = room-same w (requeued u w.queue long)
          (ap (λ n. record (lists w) { nodes = n }) same.nodes
          ∙ ap (λ m. record (lists w) { nodes = u.nodes; arcs = m }) same.arcs
          ∙ ap (λ x. record (lists w) { nodes = u.nodes; arcs = u.arcs; flows = x }) same.flows
          ∙ ap (λ x. record (lists w) { nodes = u.nodes; arcs = u.arcs; flows = u.flows; potentials = x }) same.potentials
          ∙ ap (λ x. record to { reached = x; labels = w.labels; walk = w.walk; scratch = w.scratch }) same.reached
          ∙ ap (λ x. record to { labels = x; walk = w.walk; scratch = w.scratch }) same.labels
          ∙ ap (λ x. record to { walk = x; scratch = w.scratch }) same.walk
          ∙ ap (λ x. record to { scratch = x }) same.scratch);
    }

pub near-same : (u w : Room) (i : ℕ) → IsSameButQueue u w → is_near w i ≡ is_near u i
near-same u w i same = (let one = requeued-is u w same in ap (λ (v : Room). is_near v i) one.is)

pub later-queue : (u w : Room) → IsSameButQueue u w → IsLater u w
later-queue u w same =
    let one = requeued-is u w same in
    subst (λ (v : Room). IsLater u v) (sym one.is)
    (record {
      state = record { nodes = refl; arcs = refl; flows = refl; potentials = refl; excesses = λ i l. refl };
      reached = refl;
      nearer = λ i near. near;
      falls = λ i near. omega (arith, ints);
      settled = λ i done. refl;
    })

pub spread-queue : (g : Graph) (lists : List (List Ext)) (source opened : ℕ) (u w : Room) → IsSameButQueue u w
    → Spread g lists source opened u → Spread g lists source opened w
spread-queue g lists source opened u w same spread =
    let one = requeued-is u w same in
    subst (λ (v : Room). Spread g lists source opened v) (sym one.is)
    (record {
      rank = spread.rank;
      bound = spread.bound;
      root = spread.root;
      root_key = spread.root_key;
      opened_done = spread.opened_done;
      opened_key = spread.opened_key;
      lower = spread.lower;
      upper = spread.upper;
      ways = λ i near other. way one.queue one.long (spread.ways i near other);
      tried = λ s there done other. record { pairs = (spread.tried s there done other).pairs };
      ranged = spread.ranged;
      near_rank = spread.near_rank;
      done_rank = spread.done_rank;
    })
  where
    way : {i : ℕ} (q : List ℕ) (long : length q ≡ 2 * u.nodes + 1) → WayTo g lists u spread.rank i → WayTo g lists (requeued u q long) spread.rank i
    way q long to = record {
      last = to.last;
      is = record {
        label = to.is.label;
        there = to.is.there;
        ends = to.is.ends;
        done = to.is.done;
        deeper = to.is.deeper;
        next = to.is.next;
        small = to.is.small;
      };
    }
