-- The laws of what the public functions read, as equations: what is read is spelled so, and what is left out is where it
-- is said to be. That what is spelled is read, and what is left out is answered, stands with `attributes_complete`,
-- `attributes_left_out`, `declare_items_complete` and `declare_items_left_out`.
use Rattle.std.proofs.Common.{◌≡◌, ℕ, List, Ok, Err}
use Rattle.pli_language.specs.Attributes.{SpellsAttributes, SpellsDeclareItems, attributes_marks, declare_items_marks}
use Rattle.pli_language.specs.Tree as T
use Rattle.pli_phrase.specs.Cursor.{Cursor, LeavesOut}
use Rattle.pli_attributes.specs.Reading.{attributes_from, declare_items_from}
use Rattle.pli_attributes.proofs.Posts.{post_is, post_leaves}
use Rattle.pli_attributes.proofs.Lists.{Reads}
use Rattle.pli_attributes.proofs.AttributeLaws.{LeavesAmong, attributes_post}
use Rattle.pli_attributes.proofs.Items.{LeavesItems, declare_items_post}

pub attributes_sound : (s : List ℕ) (c : Cursor) (x : List T.Attribute × Cursor) → attributes_from s c ≡ Ok x → Reads (SpellsAttributes s) attributes_marks c x
attributes_sound s c x e = post_is (attributes_post s c) e

pub attributes_leave : (s : List ℕ) (c d : Cursor) → attributes_from s c ≡ Err (LeavesOut d) → LeavesAmong s c d
attributes_leave s c d e = post_leaves (attributes_post s c) e

pub declare_items_sound : (s : List ℕ) (c : Cursor) (x : List T.DeclareItem × Cursor) → declare_items_from s c ≡ Ok x → Reads (SpellsDeclareItems s) declare_items_marks c x
declare_items_sound s c x e = post_is (declare_items_post s c) e

pub declare_items_leave : (s : List ℕ) (c d : Cursor) → declare_items_from s c ≡ Err (LeavesOut d) → LeavesItems s c d
declare_items_leave s c d e = post_leaves (declare_items_post s c) e
