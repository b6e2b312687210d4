-- The instructions of code whose items hold their numbers hold their operands.
use Rattle.std.proofs.Common.{◌≡◌, ℕ, zero, suc, ◌+◌, ◌*◌, List, [], ◌∷◌, ◌++◌, Some, refl, subst, arith}
use Rattle.std.specs.Prelude.{slice_get}
use Rattle.rv_meaning.specs.declared.instr.Instr.{Instr}
use Rattle.rv_meaning.specs.Encoding.{Fits}
use Rattle.pli_typing.specs.declared.statement.Typed.{Typed}
use Rattle.pli_typing.specs.TypedStatementView.{program_of}
use Rattle.pli_coding.specs.Assembly.{Item, Plain, BaseIn, OffsetOf, OffsetAhead, JumpTo, CallTo, JumpAhead, JumpBack, Mark, Code, item_size}
use Rattle.pli_coding.specs.Linking.{Links, item_code, linked, links_of}
use Rattle.pli_coding.specs.Images.{code_of, linked_code, picture_of}
use Rattle.pli_frames.specs.Parts.{parts}
use Rattle.rv_assembly.specs.Fitting.{FitsIn, AllFit}
use Rattle.rv_assembly.proofs.Numbers.{upper_narrow, lower_within}
use Rattle.rv_program.specs.Generated.{HoldOperands}

none_hold : HoldOperands []
none_hold zero i e = absurd (cc e)
none_hold (suc k) i e = absurd (cc e)

one_more : (x : Instr) (xs : List Instr) → Fits x → HoldOperands xs → HoldOperands (x ∷ xs)
one_more x xs fits all zero i e = let same : x ≡ i = cc (e) in subst Fits same fits
one_more x xs fits all (suc k) i e = all k i e

two_hold : (x y : Instr) → Fits x → Fits y → HoldOperands (x ∷ y ∷ [])
two_hold x y h k = one_more x (y ∷ []) h (one_more y [] k none_hold)

both_hold : (xs ys : List Instr) → HoldOperands xs → HoldOperands ys → HoldOperands (xs ++ ys)
both_hold [] ys h k = k
both_hold (x ∷ xs) ys h k = one_more x (xs ++ ys) (h 0 x refl) (both_hold xs ys (λ n i e. h (suc n) i e) k)

item_holds : (links : Links) (at : ℕ) (i : Item) → FitsIn i → HoldOperands (item_code links at i)
item_holds links at (Plain i) h = one_more i [] h none_hold
item_holds links at (BaseIn r) h = two_hold _ _ (upper_narrow _) (lower_within _)
item_holds links at (OffsetOf r s) h = two_hold _ _ (upper_narrow _) (lower_within _)
item_holds links at (OffsetAhead r words) h = two_hold _ _ (upper_narrow _) (lower_within _)
item_holds links at (JumpTo s) h = two_hold _ _ (upper_narrow _) (lower_within _)
item_holds links at (CallTo s) h = two_hold _ _ (upper_narrow _) (lower_within _)
item_holds links at (JumpAhead words) h = two_hold _ _ (upper_narrow _) (lower_within _)
item_holds links at (JumpBack words) h = two_hold _ _ (upper_narrow _) (lower_within _)
item_holds links at (Mark s) h = none_hold

linked_holds : (links : Links) (at : ℕ) (code : Code) → AllFit code → HoldOperands (linked links at code)
linked_holds links at [] h = none_hold
linked_holds links at (i ∷ is) h =
    both_hold (item_code links at i) (linked links (at + 4 * item_size i) is) (item_holds links at i h.0) (linked_holds links (at + 4 * item_size i) is h.1)

pub code_holds : (made : Code) (known typed : Typed) → known ≡ typed → made ≡ code_of parts (program_of known) → AllFit made → HoldOperands (picture_of parts (program_of typed)).code
code_holds made known typed is c h =
    subst (λ (t : Typed). HoldOperands (picture_of parts (program_of t)).code) is
    (subst (λ (u : Code). HoldOperands (linked_code u)) c (linked_holds (links_of made) 0 made h))
