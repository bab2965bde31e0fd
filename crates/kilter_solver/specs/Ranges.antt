-- Ranges: how large the numbers of the balancing may become, so that every sum fits 64 bits. A flow of a certificate is within
-- 10 ^ 15 < 2 ^ 50, a potential within 10001 * 10 ^ 9 < 2 ^ 44; there are at most 10 ^ 6 < 2 ^ 20 nodes and as many arcs. Each
-- range is stated with the sum that leads to the next.
use Rattle.std.specs.Prelude.{ℕ, ◌^◌}

-- by how much clamping moves a flow, and with it the excesses at its ends: over all arcs 2 ^ 20 * 2 ^ 40 = 2 ^ 60
abbrev pub shift_most : ℕ
shift_most = 2 ^ 40

-- potentials where routes begin; they fall by at most 2 * 10 ^ 6 * 10 ^ 9 < 2 ^ 51 on the way
abbrev pub begin_most : ℕ
begin_most = 2 ^ 58

-- potentials on the way: a tension is within twice that, 2 ^ 60
abbrev pub reach_most : ℕ
reach_most = 2 ^ 59

-- excesses before flows are clamped: afterwards 2 ^ 60 + 2 ^ 60 = 2 ^ 61
abbrev pub excess_most : ℕ
excess_most = 2 ^ 60

-- potentials before that of node 0 is taken away: afterwards 2 ^ 60 + 2 ^ 60 = 2 ^ 61
abbrev pub ungrounded_most : ℕ
ungrounded_most = 2 ^ 60

-- flows before they are clamped, and the whole surplus: moved, 2 ^ 61 + 2 ^ 40 < 2 ^ 62
abbrev pub far_most : ℕ
far_most = 2 ^ 61

-- keys of the search for a route: a node's level is its potential and its key, 2 ^ 59 + 2 ^ 61 < 2 ^ 62
abbrev pub key_most : ℕ
key_most = 2 ^ 61

-- words of the room: an excess while one flow is clamped, 2 ^ 61 + 2 ^ 60 + 2 ^ 40 < 2 ^ 62
abbrev pub word_most : ℕ
word_most = 2 ^ 62

-- ends of domains as the code holds them
abbrev pub end_most : ℕ
end_most = 2 ^ 63
