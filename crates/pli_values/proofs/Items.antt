-- Lists of INITIAL items, item by item.
use Rattle.std.proofs.Common.{zero, suc, ◌≡◌, ◌<◌, ℕ, ◌+◌, ◌-◌, Bool, false, Option, Some, None, is_some, is_none, List, refl, sym, ap, ◌∙◌, arith}
use Rattle.pli_language.specs.Tree.{InitialItem}
use Rattle.pli_language.specs.View.{option_of}
use Rattle.pli_typing.specs.Signatures.{LeafKind}
use Rattle.pli_serving.specs.Bytes.{word_at}
use Rattle.pli_serving.specs.Finding.{Call}
use Rattle.pli_serving.specs.Templates.{put_before}
use Rattle.pli_serving.specs.InitialValues.{items_from, item_at, item_size}
use Rattle.pli_values.specs.declared.initial.Item.{Item}
use Rattle.pli_values.specs.View.{item_of}

-- where the next item stands
abbrev pub behind_at : Call → (at : ℕ) → ℕ
behind_at c at = at + item_size (word_at (at + 4) c.memory) (word_at (at + 8) c.memory)

pub items_more : (c : Call) (kind : LeafKind) (left at : ℕ) → 0 < left → items_from c kind left at ≡ put_before (item_at c kind at) (items_from c kind (left - 1) (behind_at c at))
items_more c kind zero at h = absurd (omega arith)
items_more c kind (suc n) at h =
    let e : n ≡ suc n - 1 = omega arith in
    ap (λ k. put_before (item_at c kind at) (items_from c kind k (behind_at c at))) e

some_before : (a : InitialItem) (rest : Option (List InitialItem)) → is_some rest ≡ is_some (put_before (Some a) rest)
some_before a None = refl
some_before a (Some rest) = refl

pub next_is_right : (c : Call) (kind : LeafKind) (left at next : ℕ) (o : Option Item) (target : Bool) → option_of item_of o ≡ item_at c kind at → is_none o ≡ false → 0 < left → next ≡ behind_at c at → is_some (items_from c kind left at) ≡ target → is_some (items_from c kind (left - 1) next) ≡ target
next_is_right c kind left at next None target e f more n h = absurd (cc)
next_is_right c kind left at next (Some i) target e f more n h =
    ap (λ k. is_some (items_from c kind (left - 1) k)) n
    ∙ some_before (item_of i) (items_from c kind (left - 1) (behind_at c at))
    ∙ ap (λ x. is_some (put_before x (items_from c kind (left - 1) (behind_at c at)))) e
    ∙ sym (ap is_some (items_more c kind left at more))
    ∙ h
