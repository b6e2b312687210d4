-- Names gathered one by one.
use Rattle.std.proofs.Common.{append_assoc, append-nil}
use Rattle.std.proofs.lemmas.List.{drop_all, map-append}
use Rattle.std.proofs.lemmas.List.Concat.{flat_map-append}
use Rattle.pli_declare.proofs.Chains.{drop_here}
use Rattle.pli_language.proofs.Views.{views}

pub ruleset gathered = (views, drop_here, drop_all, append_assoc, append-nil, map-append, flat_map-append)
