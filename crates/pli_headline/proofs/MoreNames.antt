-- The names of a block with one more variable, and its serial numbers.
use Rattle.std.proofs.Common.{ℕ, length}
use Rattle.std.specs.Prelude.{cond, nat_lt}
use Rattle.pli_coding.specs.Environments.{Environment}
use Rattle.pli_headline.specs.ProvedSoFar.{Names, Spot, Types, names_with}
use Rattle.pli_headline.proofs.Storages.{Serials}

abbrev pub spot_of : Environment → (index : ℕ) → Spot
spot_of e index = record { number = e.block; level = e.level; index = index }

abbrev pub more_names : (e : Environment) (block : Names) (types : Types) → (index : ℕ) → Names
more_names e block types index = names_with block (length types) (spot_of e index)

abbrev pub more_serials : Serials → (count serial owner : ℕ) → Serials
more_serials o count serial owner =
    record { of = λ j. cond (nat_lt j count) (o.of j) serial; owner = λ j. cond (nat_lt j count) (o.owner j) owner; first = o.first }
