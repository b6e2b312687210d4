-- Shapes are read of the layout and the bytes of a call alone.
use Rattle.std.proofs.Common.{◌≡◌, ℕ, zero, suc, ◌+◌, Bool, true, false, Option, Some, None, if◌then◌else◌, refl, ap, ◌∙◌}
use Rattle.pli_serving.specs.Bytes.{is_data, word_at}
use Rattle.pli_serving.specs.ElementService.{ReadMembers, item_shape_at, item_shape_of, member_before, member_if, member_then, members_at}
use Rattle.pli_serving.specs.Finding.{Call}
use Rattle.pli_values.specs.Calls.{call_on}

members_anywhere : (m : ℕ) (c : Call) (k depth at : ℕ) → members_at m c k depth at ≡ members_at m (call_on c.layout c.memory) k depth at
members_anywhere m c zero depth at = refl
members_anywhere zero c (suc k) depth at = refl
members_anywhere (suc m) c (suc k) depth at = go (is_data c.layout at 12) (λ j e b. members_anywhere m c j e b)
  where
    rest : (d : ℕ) (s : Option ReadMembers) → ((j e b : ℕ) → members_at m c j e b ≡ members_at m (call_on c.layout c.memory) j e b)
        → member_then depth d k s (λ count depth behind. members_at m c count depth behind) ≡ member_then depth d k s (λ count depth behind. members_at m (call_on c.layout c.memory) count depth behind)
    rest d None same = refl
    rest d (Some i) same = ap (member_before depth d i.members) (same k depth i.behind)

    go : (b : Bool) → ((j e b : ℕ) → members_at m c j e b ≡ members_at m (call_on c.layout c.memory) j e b)
        → member_if b depth (word_at at c.memory) (word_at (at + 4) c.memory) (at + 12) k (λ count depth behind. members_at m c count depth behind)
        ≡ member_if b depth (word_at at c.memory) (word_at (at + 4) c.memory) (at + 12) k (λ count depth behind. members_at m (call_on c.layout c.memory) count depth behind)
    go false same = refl
    go true same =
        ap (λ o. member_then depth (word_at at c.memory) k o (λ count depth behind. members_at m c count depth behind)) (same (word_at (at + 4) c.memory) (suc depth) (at + 12))
        ∙ rest (word_at at c.memory) (members_at m (call_on c.layout c.memory) (word_at (at + 4) c.memory) (suc depth) (at + 12)) same

pub shapes_anywhere : (c : Call) (at : ℕ) → item_shape_at c at ≡ item_shape_at (call_on c.layout c.memory) at
shapes_anywhere c at =
    ap (λ o. if is_data c.layout at 16 then item_shape_of c at o else None) (members_anywhere c.layout.end c 1 0 (at + 4))
