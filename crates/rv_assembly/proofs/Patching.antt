-- What callers cite: items that a place is kept for, and what comes of them.
use Rattle.std.proofs.Common.{append_assoc}
use Rattle.rv_assembly.proofs.Growing.{size_append}
use Rattle.rv_assembly.proofs.Places.{is_branch, is_jump, behind_branch, behind_jump, between, patched_branch, patched_jump, chosen_is, repeated_is}

pub ruleset patching = (append_assoc, size_append, is_branch, is_jump, behind_branch, behind_jump, between, patched_branch, patched_jump, chosen_is, repeated_is)
