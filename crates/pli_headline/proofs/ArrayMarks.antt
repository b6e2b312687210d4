-- The code of elements of arrays marks no symbols, where that of their subscripts doesn't.
use Rattle.std.proofs.Common.{◌≡◌, ℕ, zero, suc, List, [], ◌∷◌, ◌++◌, map, refl, sym, ap, ◌∙◌, subst}
use Rattle.std.specs.Prelude.{pos, neg_ℤ, ◌-ℤ◌, ◌==◌, ◌&&◌}
use Rattle.rv_meaning.specs.declared.instr.BranchTest.TheVariants as Test
use Rattle.rv_meaning.specs.declared.instr.Register.{Register}
use Rattle.pli_typing.specs.Signatures.{Bounds}
use Rattle.pli_typing.specs.TypedTree as Y
use Rattle.pli_meaning.specs.Codes.{subscript_code}
use Rattle.pli_meaning.specs.Contents.{same_int}
use Rattle.pli_coding.specs.Registers.{frame_register, a0, u1, u2, u3}
use Rattle.pli_coding.specs.Assembly.{Code}
use Rattle.pli_coding.specs.Instructions.{plus, constant, skip_where, error_raised, load_word, is_immediate}
use Rattle.pli_coding.specs.Frames.{display, buffer_lower}
use Rattle.pli_coding.specs.Environments.{Environment, Taken, with_number, save, fetch}
use Rattle.pli_coding.specs.Expressions.{number_code, subscripts_code, type_in, address_in}
use Rattle.pli_coding.specs.Locating as L
use Rattle.pli_headline.specs.ProvedSoFar.{Names, constant_bounds}
use Rattle.pli_headline.proofs.Scalars.{IsNumeric}
use Rattle.pli_headline.proofs.Variables.{data_place, level_of}
use Rattle.pli_headline.proofs.ArrayMeant.{element}
use Rattle.pli_headline.proofs.ArrayElements.{IsDeclaredArray, words_added, element_found, element_code, element_reached, element_loaded, loaded_is, element_part, element_kept, stored_is}
use Rattle.pli_headline.proofs.SymbolsMarked.{Marks, behind, either, constant_none, load_none, plus_none, saved_none, fetched_none}
use Rattle.pli_coding.specs.Storing.{word_stored}

-- ---- the tests

abbrev tested_skip : Code
tested_skip = skip_where Test.GreaterOrEqualUnsigned u2 u1 (error_raised subscript_code)

counted_none : (d : ℕ) → Marks (tested_skip ++ L.counted_in d) []
counted_none zero = refl
counted_none (suc d) = refl

dimension_none : (d : ℕ) (b : Bounds) → Marks (L.subscript_counted d (constant_bounds b)) []
dimension_none d b =
    let less = L.less_lower (Y.ConstantExtent b.lower) (buffer_lower d) in
    let range = constant u2 (b.upper -ℤ b.lower) in
    let rest = tested_skip ++ L.counted_in d in
    behind less (range ++ rest) [] (either (same_int b.lower (pos 0)) [] (plus u1 u1 (neg_ℤ b.lower)) refl
    (plus_none u1 u1 (neg_ℤ b.lower))) (behind range rest [] (constant_none u2 (b.upper -ℤ b.lower))
    (counted_none d))

-- what is loaded straight
frame_none : (e : Environment) (level : ℕ) (r : Register) → Marks (L.frame_found e level r) []
frame_none e level r = either (level == e.level) [] (load_word r frame_register (display level)) refl
    (load_none r frame_register (display level))

base_none : (e : Environment) (r : Register) (v : Y.Variable) (class : Y.StorageClass)
    → Marks (L.direct_base e r v class) []
base_none e r v Y.StaticClass = refl
base_none e r v Y.AutomaticClass = frame_none e v.level r
base_none e r v Y.ParameterClass = frame_none e v.level r
base_none e r v Y.BasedClass = frame_none e v.level r
base_none e r v Y.ControlledClass = frame_none e v.level r

loaded_none : (type : Y.LeafType) (r : Register) (a : L.Address) → Marks (L.loaded type r a) []
loaded_none (Y.FixedLeaf p) r a = either (is_immediate a.displacement) _ _ refl refl
loaded_none Y.BitLeaf r a = either (is_immediate a.displacement) _ _ refl refl
loaded_none (Y.CharacterLeaf x) r a = load_none r a.register a.displacement
loaded_none (Y.VaryingLeaf x) r a = load_none r a.register a.displacement
loaded_none _ r a = load_none r a.register a.displacement

simple_none : (e : Environment) (r : Register) (x : Y.Number) → Marks (L.simple_loaded e r x) []
simple_none e r (Y.NumberConstant n) = constant_none r (pos n)
simple_none e r (Y.NumberIn (Y.Referring v locator part subscripts)) =
    let a : L.Address = record {
      register = L.direct_register e r v v.class;
      displacement =
          pos (L.direct_place e v v.class part.first);
    } in
    behind (L.direct_base e r v v.class) (L.loaded (L.leaf_number e v part.first).type r a) []
    (base_none e r v v.class) (loaded_none (L.leaf_number e v part.first).type r a)
simple_none e r _ = refl

place_none : (d : ℕ) → Marks (L.place_kept d) []
place_none zero = refl
place_none (suc d) = refl

given_none : (e : Environment) (t : Taken) (first : Y.Number) (rest : Y.Numbers)
    → Marks (L.subscript_given e t first rest) []
given_none e t first rest =
    either (L.is_simple e first && L.are_simple e rest) (L.simple_loaded e u1 first) (fetch u1 t)
    (simple_none e u1 first) (fetched_none u1 t)

pub dimensions_none : (e : Environment) (t : Taken) (d : ℕ) (xs : Y.Numbers) (bs : List Bounds)
    → Marks (L.subscripts_counted e t d xs (map constant_bounds bs)) []
dimensions_none e t d Y.NoNumber bs = refl
dimensions_none e t d (Y.NumberThen first rest) [] = refl
dimensions_none e t d (Y.NumberThen first rest) (b ∷ bs) =
    let given = L.subscript_given e t first rest in
    let one = L.subscript_counted d (constant_bounds b) in
    let more = L.subscripts_counted e (with_number t) (suc d) rest (map constant_bounds bs) in
    behind (L.place_kept d) (given ++ (one ++ more)) [] (place_none d)
    (behind given (one ++ more) [] (given_none e t first rest)
    (behind one more [] (dimension_none d b) (dimensions_none e (with_number t) (suc d) rest bs)))

-- ---- elements

found_none : (e : Environment) (level : ℕ) → Marks (element_found e level) []
found_none e level = behind (L.frame_found e level u3) (words_added (L.frame_in e level u3)) []
    (frame_none e level u3) refl

-- one subscript before the others
pub next_none : (e : Environment) (t : Taken) (first : Y.Number) (rest : Y.Numbers) → Marks (number_code e t first) [] → Marks (subscripts_code e (with_number t) rest) [] → Marks (subscripts_code e t (Y.NumberThen first rest)) []
next_none e t first rest one others =
    let all = number_code e t first ++ (save a0 t ++ subscripts_code e (with_number t) rest) in
    either (L.is_simple e first && L.are_simple e rest) [] all refl
    (behind (number_code e t first) (save a0 t ++ subscripts_code e (with_number t) rest) [] one
    (behind (save a0 t) (subscripts_code e (with_number t) rest) [] (saved_none a0 t) others))

pub element_none : (e : Environment) (t : Taken) (level : ℕ) (bs : List Bounds) (first : Y.Number) (rest : Y.Numbers) → Marks (subscripts_code e t (Y.NumberThen first rest)) [] → Marks (element_code e t level bs first rest) []
element_none e t level bs first rest none =
    let xs = Y.NumberThen first rest in
    let counted = L.subscripts_counted e t 0 xs (map constant_bounds bs) in
    behind (subscripts_code e t xs) (counted ++ element_found e level) [] none
    (behind counted (element_found e level) [] (dimensions_none e t 0 xs bs) (found_none e level))

-- an element that is read
pub part_none : (e : Environment) (t : Taken) (block : Names) (j : ℕ) (type : Y.LeafType) (bs : List Bounds) (first : Y.Number) (rest : Y.Numbers) → IsNumeric type → IsDeclaredArray e block j type bs → Marks (subscripts_code e t (Y.NumberThen first rest)) [] → Marks (element_part e block j first rest t) []
part_none e t block j type bs first rest is declared none =
    let r = element block j first rest in
    let loaded = element_loaded e block j type in
    let eq : element_part e block j first rest t ≡ element_code e t (level_of block j) bs first rest ++ loaded =
    ap (λ u. u ++ L.loaded (type_in e r) a0 (address_in e r)) (element_reached e t block j type bs first rest is declared)
    ∙ ap (λ u. element_code e t (level_of block j) bs first rest ++ u) (loaded_is e block j type bs first rest is declared) in
    subst (λ c. Marks c []) (sym eq)
    (behind (element_code e t (level_of block j) bs first rest) loaded [] (element_none e t (level_of block j) bs first rest none) (either (is_immediate (pos (data_place e block j))) _ _ refl refl))

-- an element that is stored
pub kept_element_none : (e : Environment) (t : Taken) (block : Names) (j : ℕ) (type : Y.LeafType) (bs :
    List Bounds) (first : Y.Number) (rest : Y.Numbers) → IsNumeric type → IsDeclaredArray e block j type bs
    → Marks (subscripts_code e t (Y.NumberThen first rest)) []
    → Marks (subscripts_code e (with_number t) (Y.NumberThen first rest)) []
    → Marks (word_stored e t (element block j first rest)) []
kept_element_none e t block j type bs first rest is declared near waits =
    let found = element_code e t (level_of block j) bs first rest in
    let behind_value = element_code e (with_number t) (level_of block j) bs first rest in
    let kept = element_kept e block j type in
    let kept_none : Marks kept [] = either (is_immediate (pos (data_place e block j))) _ _ refl refl in
    subst (λ c. Marks c []) (sym (stored_is e t block j type bs first rest is declared))
    (either (L.are_simple e (Y.NumberThen first rest)) (found ++ kept) (save a0 t
    ++ (behind_value ++ (fetch a0 t ++ kept)))
    (behind found kept [] (element_none e t (level_of block j) bs first rest near) kept_none)
    (behind (save a0 t) (behind_value ++ (fetch a0 t ++ kept)) [] (saved_none a0 t)
    (behind behind_value (fetch a0 t ++ kept) [] (element_none e (with_number t) (level_of block j) bs first rest waits)
    (behind (fetch a0 t) kept [] (fetched_none a0 t) kept_none))))
