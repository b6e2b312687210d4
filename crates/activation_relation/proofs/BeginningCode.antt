-- The stores in the code of a block's beginning, and the loads in that of its end.
use Rattle.std.proofs.Common.{◌≡◌, ℕ, zero, suc, ◌+◌, ◌*◌, ◌<◌, ◌≤◌, ℤ, pos, List, [], ◌∷◌, ◌++◌, Bool}
use Rattle.std.proofs.Common.{true, false, refl, sym, ap, ◌∙◌, arith}
use Rattle.std.proofs.lemmas.Bool.{le-leb}
use Rattle.std.proofs.lemmas.List.{append_assoc}
use Rattle.std.specs.Prelude.{cond, map}
use Rattle.rv_meaning.specs.declared.instr.Register.{Register}
use Rattle.pli_meaning.specs.StorageState.{Activation}
use Rattle.pli_serving.specs.ServiceState as S
use Rattle.pli_coding.specs.Assembly.{BaseIn, Code}
use Rattle.pli_coding.specs.Entries.{frame_begun, registers_saved, registers_restored, all_saved, saved_if}
use Rattle.pli_coding.specs.Entries.{display_copied}
use Rattle.pli_coding.specs.Entries.{display_made}
use Rattle.pli_coding.specs.Frames.{MemoryParts, return_address, frame_below, saved_register, own_offset, lower_top}
use Rattle.pli_coding.specs.Frames.{display, fixed_size, temporary_bytes}
use Rattle.pli_coding.specs.Instructions.{is_immediate, store_word, load_word, plus, move, subtract}
use Rattle.pli_coding.specs.Registers.{held_registers, return_register, stack_register, frame_register, held, a0, u0}
use Rattle.pli_coding.specs.Registers.{u1}
use Rattle.activation_relation.specs.CodeStores.{stored_by, stores_in, loaded_by, loads_in, saved_by, most_levels}
use Rattle.activation_relation.specs.Frames.{place_from, frame_stores, frame_under, ancestor_frame, words_from}
use Rattle.activation_relation.specs.Frames.{return_stores, Stores}
use Rattle.activation_relation.specs.Layers.{Layer}

-- ---- single pieces

near : (n : ℕ) → n ≤ 2047 → is_immediate (pos n) ≡ true
near n h = le-leb n 2047 h

chosen :
    (f : Code → List (ℤ × ℕ)) (q : Bool) (x y : Code) (v : List (ℤ × ℕ)) → q ≡ true → f x ≡ v → f (cond q x y) ≡ v
chosen f q x y v e is = ap (λ b. f (cond b x y)) e ∙ is

either_none : (q : Bool) (x y : Code) → stores_in x ≡ [] → stores_in y ≡ [] → stores_in (cond q x y) ≡ []
either_none true x y a b = a
either_none false x y a b = b

store_one :
    (rs value : Register) (n : ℕ) → n ≤ 2047 → stores_in (store_word rs value (pos n)) ≡ (pos n, value.index) ∷ []
store_one rs value n h = chosen stores_in (is_immediate (pos n)) _ _ _ (near n h) refl

load_one :
    (rd rs : Register) (n : ℕ) → n ≤ 2047 → loads_in (load_word rd rs (pos n)) ≡ (pos n, rd.index) ∷ []
load_one rd rs n h = chosen loads_in (is_immediate (pos n)) _ _ _ (near n h) refl

load_none : (rd rs : Register) (z : ℤ) → stores_in (load_word rd rs z) ≡ []
load_none rd rs z = either_none (is_immediate z) _ _ refl refl

plus_none : (rd rs : Register) (z : ℤ) → stores_in (plus rd rs z) ≡ []
plus_none rd rs z = either_none (is_immediate z) _ _ refl refl

-- ---- pieces one behind the other

stores_append : (xs ys : Code) → stores_in (xs ++ ys) ≡ stores_in xs ++ stores_in ys
stores_append [] ys = refl
stores_append (x ∷ xs) ys =
    ap (λ zs. stored_by x ++ zs) (stores_append xs ys) ∙ sym (append_assoc (stored_by x) (stores_in xs) (stores_in ys))

loads_append : (xs ys : Code) → loads_in (xs ++ ys) ≡ loads_in xs ++ loads_in ys
loads_append [] ys = refl
loads_append (x ∷ xs) ys =
    ap (λ zs. loaded_by x ++ zs) (loads_append xs ys) ∙ sym (append_assoc (loaded_by x) (loads_in xs) (loads_in ys))

-- what a code stores, and then what another one does
stores_then :
    (xs ys : Code) (v u : List (ℤ × ℕ)) → stores_in xs ≡ v → stores_in ys ≡ u → stores_in (xs ++ ys) ≡ v ++ u
stores_then xs ys v u a b = stores_append xs ys ∙ ap (λ zs. zs ++ stores_in ys) a ∙ ap (λ zs. v ++ zs) b

-- ---- registers

saved_list : (n left : ℕ) → List (ℤ × ℕ)
saved_list n zero = []
saved_list n (suc left) = (saved_register n, (held n).index) ∷ saved_list (suc n) left

saved_stores :
    (frame : Register) (n left : ℕ) → n + left ≤ 7 → stores_in (registers_saved frame n left) ≡ saved_list n left
unfolding saved_list
saved_stores frame n zero h = refl
saved_stores frame n (suc left) h =
    stores_then (store_word frame (held n) (saved_register n)) (registers_saved frame (suc n) left)
    ((saved_register n, (held n).index) ∷ []) (saved_list (suc n) left)
    (store_one frame (held n) (8 + 4 * n) (omega (arith, h))) (saved_stores frame (suc n) left (omega (arith, h)))

restored_loads : (n left : ℕ) → n + left ≤ 7 → loads_in (registers_restored n left) ≡ saved_list n left
unfolding saved_list
restored_loads n zero h = refl
restored_loads n (suc left) h =
    loads_append (load_word (held n) frame_register (saved_register n)) (registers_restored (suc n) left)
    ∙ ap (λ zs. zs ++ loads_in (registers_restored (suc n) left))
    (load_one (held n) frame_register (8 + 4 * n) (omega (arith, h)))
    ∙ ap (λ zs. (saved_register n, (held n).index) ∷ zs) (restored_loads (suc n) left (omega (arith, h)))

pub registers_same :
    (frame : Register) (saved : ℕ) → saved ≤ held_registers →
    stores_in (registers_saved frame 0 saved) ≡ loads_in (registers_restored 0 saved)
registers_same frame saved h =
    let few : saved ≤ 7 = h in
    saved_stores frame 0 saved (omega (arith, few)) ∙ sym (restored_loads 0 saved (omega (arith, few)))

-- ---- places

abbrev places : ℕ → List (ℤ × ℕ) → List ℕ
places at xs = map (λ x. place_from at x.0) xs

abbrev firsts : Stores → List ℕ
firsts xs = map (λ x. x.0) xs

places_append : (at : ℕ) (xs ys : List (ℤ × ℕ)) → places at (xs ++ ys) ≡ places at xs ++ places at ys
places_append at [] ys = refl
places_append at (x ∷ xs) ys = ap (λ zs. place_from at x.0 ∷ zs) (places_append at xs ys)

firsts_append : (xs ys : Stores) → firsts (xs ++ ys) ≡ firsts xs ++ firsts ys
firsts_append [] ys = refl
firsts_append (x ∷ xs) ys = ap (λ zs. x.0 ∷ zs) (firsts_append xs ys)

saved_places :
    (at : ℕ) (value : ℕ → ℕ) (n left : ℕ) →
    places at (saved_list n left) ≡ firsts (words_from (place_from at (saved_register 0)) value n left)
unfolding saved_list
saved_places at value n zero = refl
saved_places at value n (suc left) =
    let same : at + (8 + 4 * n) ≡ at + (8 + 4 * 0) + 4 * n = omega arith in
    ap (λ i. i ∷ places at (saved_list (suc n) left)) same
    ∙ ap (λ zs. (at + (8 + 4 * 0) + 4 * n) ∷ zs) (saved_places at value (suc n) left)

-- the display, with the frame around last
display_places :
    (at : ℕ) (value : ℕ → ℕ) (n left : ℕ) → n + left < 400 →
    places at (stores_in (display_copied n left))
    ≡ firsts (words_from (place_from at (display 0)) value n (suc left))
display_places at value n zero h =
    let same : at + (144 + 4 * n) ≡ at + (144 + 4 * 0) + 4 * n = omega arith in
    ap (λ zs. places at zs) (store_one frame_register a0 (144 + 4 * n) (omega (arith, h)))
    ∙ ap (λ i. i ∷ []) same
display_places at value n (suc left) h =
    let same : at + (144 + 4 * n) ≡ at + (144 + 4 * 0) + 4 * n = omega arith in
    let rest = display_copied (suc n) left in
    ap (λ zs. places at zs) (stores_then (load_word u1 a0 (display n))
    (store_word frame_register u1 (display n) ++ rest) [] ((display n, u1.index) ∷ stores_in rest)
    (load_none u1 a0 (display n))
    (stores_then (store_word frame_register u1 (display n)) rest ((display n, u1.index) ∷ []) (stores_in rest)
    (store_one frame_register u1 (144 + 4 * n) (omega (arith, h))) refl))
    ∙ ap (λ i. i ∷ places at (stores_in rest)) same
    ∙ ap (λ zs. (at + (144 + 4 * 0) + 4 * n) ∷ zs) (display_places at value (suc n) left (omega (arith, h)))

made_places :
    (at : ℕ) (value : ℕ → ℕ) (level : ℕ) → level < 400 →
    places at (stores_in (display_made level)) ≡ firsts (words_from (place_from at (display 0)) value 0 level)
made_places at value zero h = refl
made_places at value (suc outer) h = display_places at value 0 outer (omega (arith, h))

-- ---- what is saved

all_places :
    (at base back : ℕ) (value : ℕ → ℕ) (saved : ℕ) → saved ≤ 7 →
    places at (stores_in (all_saved u0 saved))
    ≡ (at + 0) ∷ firsts (words_from (place_from at (saved_register 0)) value 0 saved)
all_places at base back value saved few =
    ap (λ zs. places at zs) (stores_then (store_word u0 return_register return_address) (registers_saved u0 0 saved)
    ((return_address, return_register.index) ∷ []) (saved_list 0 saved)
    (store_one u0 return_register 0 (omega arith)) (saved_stores u0 0 saved (omega (arith, few))))
    ∙ ap (λ zs. (at + 0) ∷ zs) (saved_places at value 0 saved)

saved_if_places :
    (at base back : ℕ) (value : ℕ → ℕ) (kind : S.BlockKind) (saved : ℕ) → saved ≤ 7 →
    (kind ≡ S.BeginBlock → saved ≡ 0) →
    places at (stores_in (saved_if (saved_by kind saved)))
    ≡ firsts (return_stores kind (place_from at return_address) (base + 4 * back)
    ++ words_from (place_from at (saved_register 0)) value 0 saved)
saved_if_places at base back value S.BeginBlock saved few none =
    ap (λ n. firsts (words_from (place_from at (saved_register 0)) value 0 n)) (sym (none refl))
saved_if_places at base back value S.ProcedureBlock saved few none = all_places at base back value saved few
saved_if_places at base back value (S.OnUnitBlock code resume) saved few none = all_places at base back value saved few

-- ---- the whole

pub begun_places :
    (parts : MemoryParts) (base parent : ℕ) (as' : List Activation) (φ : Layer) (φs : List Layer) →
    φ.saved ≤ held_registers → (φ.kind ≡ S.BeginBlock → φ.saved ≡ 0) → φ.level < most_levels →
    map (λ x. place_from φ.at x.0) (stores_in (frame_begun φ.words φ.level φ.parameters (saved_by φ.kind φ.saved)))
    ≡ map (λ x. x.0) (frame_stores parts base parent as' φ φs)
begun_places parts base parent as' φ φs few none level =
    ap (λ zs. places φ.at zs) code_stores
    ∙ places_append φ.at saved_code (below ++ (lower ++ (shown ++ own)))
    ∙ ap (λ zs. zs ++ places φ.at (below ++ (lower ++ (shown ++ own))))
    (saved_if_places φ.at base φ.back φ.held φ.kind φ.saved few none)
    ∙ ap (λ zs. firsts (back_words ++ held_words) ++ ((φ.at + 4) ∷ (φ.at + 40) ∷ zs))
    (places_append φ.at shown own ∙ ap (λ zs. zs ++ ((φ.at + 36) ∷ [])) (made_places φ.at value φ.level level)
    ∙ sym (firsts_append display_words ((φ.at + 36, φ.at) ∷ [])))
    ∙ sym (firsts_append (back_words ++ held_words) rest_words)
    ∙ ap (λ zs. firsts zs) (append_assoc back_words held_words rest_words)
  where
    value : ℕ → ℕ
    value n = base + ancestor_frame as' φs parent n

    saved_code : List (ℤ × ℕ)
    saved_code = stores_in (saved_if (saved_by φ.kind φ.saved))

    below : List (ℤ × ℕ)
    below = (frame_below, frame_register.index) ∷ []

    lower : List (ℤ × ℕ)
    lower = (lower_top, u1.index) ∷ []

    shown : List (ℤ × ℕ)
    shown = stores_in (display_made φ.level)

    own : List (ℤ × ℕ)
    own = (own_offset, u1.index) ∷ []

    back_words : Stores
    back_words = return_stores φ.kind (place_from φ.at return_address) (base + 4 * φ.back)

    held_words : Stores
    held_words = words_from (place_from φ.at (saved_register 0)) φ.held 0 φ.saved

    display_words : Stores
    display_words = words_from (place_from φ.at (display 0)) value 0 φ.level

    rest_words : Stores
    rest_words =
        (φ.at + 4, base + frame_under parts φs)
        ∷ (φ.at + 40, φ.lower) ∷ (display_words ++ ((φ.at + 36, φ.at) ∷ []))

    own_code : Code
    own_code =
        store_word frame_register u1 own_offset
        ++ plus stack_register frame_register (pos (fixed_size φ.level φ.parameters))

    behind_display : Code
    behind_display = BaseIn u1 ∷ subtract u1 frame_register u1 ∷ own_code

    behind_lower : Code
    behind_lower = display_made φ.level ++ behind_display

    behind_load : Code
    behind_load = move frame_register u0 ∷ (store_word frame_register u1 lower_top ++ behind_lower)

    behind_below : Code
    behind_below = load_word u1 frame_register lower_top ++ behind_load

    behind_saved : Code
    behind_saved = store_word u0 frame_register frame_below ++ behind_below

    own_stores : stores_in behind_display ≡ own
    own_stores =
        stores_then (store_word frame_register u1 own_offset)
        (plus stack_register frame_register (pos (fixed_size φ.level φ.parameters))) own []
        (store_one frame_register u1 36 (omega arith))
        (plus_none stack_register frame_register (pos (fixed_size φ.level φ.parameters)))

    lower_stores : stores_in behind_load ≡ lower ++ (shown ++ own)
    lower_stores =
        stores_then (store_word frame_register u1 lower_top) behind_lower lower (shown ++ own)
        (store_one frame_register u1 40 (omega arith))
        (stores_then (display_made φ.level) behind_display shown own refl own_stores)

    below_stores : stores_in behind_saved ≡ below ++ (lower ++ (shown ++ own))
    below_stores =
        stores_then (store_word u0 frame_register frame_below) behind_below below (lower ++ (shown ++ own))
        (store_one u0 frame_register 4 (omega arith))
        (stores_then (load_word u1 frame_register lower_top) behind_load [] (lower ++ (shown ++ own))
        (load_none u1 frame_register lower_top) lower_stores)

    code_stores :
        stores_in (frame_begun φ.words φ.level φ.parameters (saved_by φ.kind φ.saved))
        ≡ saved_code ++ (below ++ (lower ++ (shown ++ own)))
    code_stores =
        stores_then (plus u0 stack_register (pos (temporary_bytes φ.words)))
        (saved_if (saved_by φ.kind φ.saved) ++ behind_saved) [] (saved_code ++ (below ++ (lower ++ (shown ++ own))))
        (plus_none u0 stack_register (pos (temporary_bytes φ.words)))
        (stores_then (saved_if (saved_by φ.kind φ.saved)) behind_saved saved_code (below ++ (lower ++ (shown ++ own)))
        refl below_stores)
