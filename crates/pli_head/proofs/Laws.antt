-- The laws of the reader of heads, as equations: what is read is spelled so, and what is left out is where it is said to
-- be. That what is spelled is read, and what is left out is answered, stands with `head_complete` and `head_left_out`.
use Rattle.std.proofs.Common.{◌≡◌, ℕ, ◌≤◌, List, length, Ok, Err}
use Rattle.pli_language.specs.Heads as G
use Rattle.pli_phrase.specs.Cursor.{Cursor, LeavesOut}
use Rattle.pli_attributes.proofs.Posts.{post_is, post_leaves}
use Rattle.pli_attributes.proofs.AttributeLaws.{Begun}
use Rattle.pli_head.specs.Reading.{head_from}
use Rattle.pli_head.proofs.Fronts.{HeadRead, head_post}
use Rattle.pli_head.proofs.LeftOut.{left_out_no_longer, left_out_begun}

pub head_sound : (s : List ℕ) (c : Cursor) (x : G.Head × Cursor) → head_from s c ≡ Ok x → HeadRead s c x
head_sound s c x e = post_is (head_post s c) e

-- a form that is left out stands in the head that begins here, at a token from here on
pub record HeadLeaves (s : List ℕ) (c : Cursor) (d : Cursor) : Type 0 where
  pub leaves : G.LeavesOut s c.tokens c.marks d.tokens d.marks
  pub begun : Begun d.tokens
  pub no_longer : length d.tokens ≤ length c.tokens

pub head_leaves : (s : List ℕ) (c d : Cursor) → head_from s c ≡ Err (LeavesOut d) → HeadLeaves s c d
head_leaves s c d e =
    let h = (post_leaves (head_post s c) e).leaves in
    record { leaves = h; begun = left_out_begun h; no_longer = left_out_no_longer h }
