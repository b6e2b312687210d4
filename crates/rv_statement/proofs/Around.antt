-- What stands around a statement: blocks, frames and labels.
use Rattle.std.proofs.Common.{◌≡◌, ◌≢◌, ◌≤◌, ℕ, ◌+◌, ◌<◌, Bool, true, false, List, [], ◌∷◌, ◌++◌, map, length, drop, get_or, refl, sym, ap, ◌∙◌, arith, append_assoc}
use Rattle.std.specs.Prelude.{◌==◌, ◌&&◌, nat_le, if◌then◌else◌}
use Rattle.std.proofs.lemmas.Bool.Decides.{nat_tests}
use Rattle.std.proofs.lemmas.List.{length-map}
use Rattle.pli_language.specs.declared.expr.Name.{Name}
use Rattle.pli_language.specs.View.{name_of}
use Rattle.pli_typing.specs.declared.typed.DeclaredVariable.{DeclaredVariable}
use Rattle.pli_typing.specs.TypedTree as Y
use Rattle.pli_typing.specs.TypedStatementView.{declared_variable_of}
use Rattle.pli_typing.specs.Resolving.{letters_of}
use Rattle.pli_meaning.specs.DeclaredShapes.{variables_of_block}
use Rattle.pli_coding.specs.Assembly.{Code, Mark, LabelPlace}
use Rattle.pli_coding.specs.Environments.{last_of_level}
use Rattle.pli_coding.specs.Environments as E
use Rattle.pli_coding.specs.Frames.{automatic_place, frame_end}
use Rattle.pli_coding.specs.Statements.{marked}
use Rattle.pli_frames.specs.Parts.{parts}
use Rattle.rv_address.specs.declared.environment.BlockPlace.{BlockPlace}
use Rattle.rv_address.specs.Around.{block_place_of}
use Rattle.rv_address.proofs.Declared.{shown_from}

-- ---- blocks

is_here : (n m l k : ℕ) → n ≤ m → l ≡ k → (nat_le n m && (l == k)) ≡ true
is_here n m l k h e = grind (arith, nat_tests)

is_behind : (n m l k : ℕ) → m < n → (nat_le n m && (l == k)) ≡ false
is_behind n m l k h = grind (arith, nat_tests)

is_elsewhere : (n m l k : ℕ) → l ≢ k → (nat_le n m && (l == k)) ≡ false
is_elsewhere n m l k h = grind (arith, nat_tests)

step : (b : Bool) (xs : List BlockPlace) (i : ℕ) (x : BlockPlace) (number level found next target : ℕ) → i < length xs → x ≡ get_or xs i x → (nat_le x.number number && (x.level == level)) ≡ b → (if b then x.number else found) ≡ next
    → last_of_level number level found (map block_place_of (drop i xs)) ≡ target → last_of_level number level next (map block_place_of (drop (i + 1) xs)) ≡ target
step b xs i x number level found next target h e t n is =
    let rest : List E.BlockPlace = map block_place_of (drop (i + 1) xs) in
    ap (λ k. last_of_level number level k rest) (sym n)
    ∙ either b rest
    ∙ ap (λ c. if c then last_of_level number level x.number rest else last_of_level number level found rest) (sym t)
    ∙ ap (λ bs. last_of_level number level found bs) (sym (shown_from block_place_of xs i x h e))
    ∙ is
  where
    either : (c : Bool) (rest : List E.BlockPlace) → last_of_level number level (if c then x.number else found) rest ≡ (if c then last_of_level number level x.number rest else last_of_level number level found rest)
    either true rest = refl
    either false rest = refl

pub this_block : (xs : List BlockPlace) (i : ℕ) (x : BlockPlace) (number level found target : ℕ) → i < length xs → x ≡ get_or xs i x → x.number ≤ number → x.level ≡ level
    → last_of_level number level found (map block_place_of (drop i xs)) ≡ target → last_of_level number level x.number (map block_place_of (drop (i + 1) xs)) ≡ target
this_block xs i x number level found target h e a b is = step true xs i x number level found x.number target h e (is_here x.number number x.level level a b) refl is

pub block_behind : (xs : List BlockPlace) (i : ℕ) (x : BlockPlace) (number level found target : ℕ) → i < length xs → x ≡ get_or xs i x → number < x.number
    → last_of_level number level found (map block_place_of (drop i xs)) ≡ target → last_of_level number level found (map block_place_of (drop (i + 1) xs)) ≡ target
block_behind xs i x number level found target h e a is = step false xs i x number level found found target h e (is_behind x.number number x.level level a) refl is

pub block_elsewhere : (xs : List BlockPlace) (i : ℕ) (x : BlockPlace) (number level found target : ℕ) → i < length xs → x ≡ get_or xs i x → x.level ≢ level
    → last_of_level number level found (map block_place_of (drop i xs)) ≡ target → last_of_level number level found (map block_place_of (drop (i + 1) xs)) ≡ target
block_elsewhere xs i x number level found target h e a is = step false xs i x number level found found target h e (is_elsewhere x.number number x.level level a) refl is

-- ---- frames

pub end_of_frame : (program : Y.Program) (block level place n : ℕ) (ds : List DeclaredVariable) → map declared_variable_of ds ≡ variables_of_block program block → n ≡ length ds → place ≡ automatic_place parts program block level n → place ≡ frame_end parts program block level
end_of_frame program block level place n ds here e is =
    is ∙ ap (λ k. automatic_place parts program block level k) (e ∙ sym (length-map ds declared_variable_of) ∙ ap length here)

-- ---- labels

pub next_label : (xs : List Name) (i : ℕ) (x : Name) (block : ℕ) (letters : List ℕ) (now next target : Code) → i < length xs → x ≡ get_or xs i x → letters ≡ x.letters.items → next ≡ now ++ Mark (LabelPlace block letters) ∷ []
    → now ++ marked block (letters_of (map name_of (drop i xs))) ≡ target → next ++ marked block (letters_of (map name_of (drop (i + 1) xs))) ≡ target
next_label xs i x block letters now next target h e same n is =
    let rest : Code = marked block (letters_of (map name_of (drop (i + 1) xs))) in
    ap (λ u. u ++ rest) (n ∙ ap (λ l. now ++ Mark (LabelPlace block l) ∷ []) same)
    ∙ append_assoc now (Mark (LabelPlace block x.letters.items) ∷ []) rest
    ∙ ap (λ ns. now ++ marked block (letters_of ns)) (sym (shown_from name_of xs i x h e))
    ∙ is
