-- How large a cost is.
use Rattle.std.specs.Prelude.{ℕ, ◌*◌, ◌^◌}

-- the greatest magnitude of the cost of one flow of a certificate: the base, and the greatest slope over the way from the rest point to the flow
abbrev pub cost_most : ℕ
cost_most = 3 * 10 ^ 24
