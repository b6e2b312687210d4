-- Rows of declarations, gathered one by one.
use Rattle.std.proofs.Common.{append_assoc, append-nil}
use Rattle.std.proofs.lemmas.List.{drop_all, map-append}
use Rattle.pli_declare.proofs.Chains.{drop_here}

pub ruleset gathered = (drop_here, drop_all, append_assoc, append-nil, map-append)
