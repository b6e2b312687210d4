-- A place at the start of a format list.
use Rattle.std.proofs.Common.{◌≡◌, ℕ, Some, sym, ap}
use Rattle.pli_serving.specs.ServiceState.{Direction}
use Rattle.pli_serving.specs.Edits.{direction_of, edit_begin_served, edit_begun}
use Rattle.pli_serving.specs.Finding.{Call}
use Rattle.pli_serving.specs.FormatLists.{formats_at}
use Rattle.pli_serving.specs.Outcomes.{or_bad}

pub begun_so : (c : Call) (at mode : ℕ) (d : Direction) → Some d ≡ direction_of mode → edit_begin_served c at mode ≡ or_bad (formats_at c at) (edit_begun c at mode d)
begun_so c at mode d e = ap (λ o. or_bad o (λ direction. or_bad (formats_at c at) (edit_begun c at mode direction))) (sym e)
