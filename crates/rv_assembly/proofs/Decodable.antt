-- Linked code is made of instructions whose fields hold their operands.
use Rattle.std.proofs.Common.{◌≡◌, ℕ, zero, suc, ◌+◌, ◌*◌, ◌≤◌, List, [], ◌∷◌, ◌++◌, map, length, drop, refl, sym, ap, ◌∙◌, subst, append-nil, arith}
use Rattle.std.proofs.lemmas.List.{drop_all}
use Rattle.rv_meaning.specs.declared.instr.Instr.{Instr}
use Rattle.rv_meaning.specs.Encoding.{Fits, word_of}
use Rattle.rv_meaning.specs.Images.{AllInstructions}
use Rattle.pli_coding.specs.Assembly.{Item, Plain, BaseIn, OffsetOf, OffsetAhead, JumpTo, CallTo, JumpAhead, JumpBack, Mark, Code, item_size}
use Rattle.pli_coding.specs.Linking.{Links, item_code, linked}
use Rattle.rv_assembly.specs.declared.item.Item.{Item as Held}
use Rattle.rv_assembly.specs.View.{item_of}
use Rattle.rv_assembly.specs.Fitting.{FitsIn, AllFit}
use Rattle.rv_assembly.proofs.Numbers.{upper_narrow, lower_within}

AllHold : List Instr → Type 0
AllHold [] = Unit {0}
AllHold (i ∷ is) = Fits i × AllHold is

hold_both : (a b : List Instr) → AllHold a → AllHold b → AllHold (a ++ b)
unfolding AllHold
hold_both [] b h k = k
hold_both (i ∷ a) b h k = (h.0, hold_both a b h.1 k)

item_holds : (links : Links) (at : ℕ) (i : Item) → FitsIn i → AllHold (item_code links at i)
unfolding AllHold
item_holds links at (Plain i) h = (h, tt)
item_holds links at (BaseIn r) h = (upper_narrow _, (lower_within _, tt))
item_holds links at (OffsetOf r s) h = (upper_narrow _, (lower_within _, tt))
item_holds links at (OffsetAhead r words) h = (upper_narrow _, (lower_within _, tt))
item_holds links at (JumpTo s) h = (upper_narrow _, (lower_within _, tt))
item_holds links at (CallTo s) h = (upper_narrow _, (lower_within _, tt))
item_holds links at (JumpAhead words) h = (upper_narrow _, (lower_within _, tt))
item_holds links at (JumpBack words) h = (upper_narrow _, (lower_within _, tt))
item_holds links at (Mark s) h = tt

linked_holds : (links : Links) (at : ℕ) (code : Code) → AllFit code → AllHold (linked links at code)
unfolding AllHold
linked_holds links at [] h = tt
linked_holds links at (i ∷ is) h = hold_both (item_code links at i) (linked links (at + 4 * item_size i) is) (item_holds links at i h.0) (linked_holds links (at + 4 * item_size i) is h.1)

all_instructions : (is : List Instr) → AllHold is → AllInstructions (map word_of is)
unfolding AllHold
all_instructions [] h k small = absurd (omega arith)
all_instructions (i ∷ is) h zero small = (i, h.0, refl)
all_instructions (i ∷ is) h (suc k) small = all_instructions is h.1 k (omega arith)

pub linked_whole : (links : Links) (xs : List Held) (code : Code) (i at : ℕ) (done : List ℕ) → length xs ≤ i → map item_of xs ≡ code → done ++ map word_of (linked links at (map item_of (drop i xs))) ≡ map word_of (linked links 0 (map item_of xs)) → done ≡ map word_of (linked links 0 code)
linked_whole links xs code i at done h e is =
    sym (append-nil done)
    ∙ ap (λ u. done ++ map word_of (linked links at (map item_of u))) (sym (drop_all i xs h))
    ∙ is
    ∙ ap (λ u. map word_of (linked links 0 u)) e

pub words_decode : (links : Links) (code : Code) → AllFit code → (words : List ℕ) → words ≡ map word_of (linked links 0 code) → AllInstructions words
words_decode links code h words e = subst AllInstructions (sym e) (all_instructions (linked links 0 code) (linked_holds links 0 code h))
