-- The code that stores one number in all elements of an array: it writes a record of the array in four words behind the temporaries in
-- use, and calls service 41.
use Rattle.std.proofs.Common.{◌≡◌, ℕ, suc, ◌+◌, ◌-◌, ◌*◌, ◌^◌, ◌<◌, ◌≤◌, List, [], ◌∷◌, ◌++◌, Bool, true, false, refl, sym, ap, ◌∙◌, subst, arith}
use Rattle.std.specs.Prelude.{ℤ, pos, neg_ℤ, cond, ◌==◌, ◌||◌, if◌then◌else◌}
use Rattle.std.specs.List.{list_any}
use Rattle.std.proofs.lemmas.Int.{ints}
use Rattle.std.proofs.lemmas.Bool.{eq-eqb}
use Rattle.std.proofs.lemmas.Bool.Decides.{nat_tests}
use Rattle.rv_meaning.specs.declared.instr.Instr.{Instr}
use Rattle.rv_meaning.specs.declared.instr.Register.{Register}
use Rattle.rv_meaning.specs.Words.{word, sum}
use Rattle.rv_meaning.specs.Memory.{load}
use Rattle.rv_meaning.specs.Tables.{run_time_size}
use Rattle.pli_typing.specs.Signatures.{Bounds}
use Rattle.pli_typing.specs.TypedTree as Y
use Rattle.pli_meaning.specs.Control.{Flow}
use Rattle.pli_serving.specs.ServiceState.{Services}
use Rattle.pli_coding.specs.Registers.{zero_register, frame_register, a0, a1, a2}
use Rattle.pli_coding.specs.Assembly.{Code, size_of}
use Rattle.pli_coding.specs.Instructions.{number, plus, load_word, store_word, service}
use Rattle.pli_coding.specs.Frames.{has_constant_size, display, own_offset, words_place}
use Rattle.pli_coding.specs.Environments.{Environment, Taken, with_words, with_number, save, fetch}
use Rattle.pli_coding.specs.SignatureTable.{table_of, signature_of, is_open, is_open_pair, number_in_table}
use Rattle.pli_coding.specs.Locating as L
use Rattle.pli_coding.specs.Storing as K
use Rattle.pli_coding.specs.Linking.{Links}
use Rattle.image_runs.specs.Runs.{Whole}
use Rattle.pli_language.specs.Tree as T
use Rattle.pli_headline.specs.ProvedSoFar.{Names, IsScalar, AreBounds, array_variable}
use Rattle.run_steps.specs.Engine.{Base, address}
use Rattle.run_steps.proofs.Linking.{size_append}
use Rattle.run_steps.specs.Items.{Linked, At}
use Rattle.run_steps.proofs.Items.{straight}
use Rattle.run_steps.proofs.Jumps.{front_of, back_of}
use Rattle.run_steps.proofs.Numbers.{above_small}
use Rattle.run_steps.specs.Bodies.{Ground, Known, Free, PlaceFrom, PlaceOf, IsNear, with'}
use Rattle.run_steps.proofs.Bodies.{at_place, frame_is, load_piece, store_piece}
use Rattle.run_steps.proofs.Increments.{plus_own}
use Rattle.pli_headline.proofs.Operators.{valued}
use Rattle.run_steps.specs.Temporaries.{Temporaries, nothing, put}
use Rattle.run_steps.proofs.Temporaries.{word_place}
use Rattle.run_steps.specs.Reaching.{Reaches}
use Rattle.pli_headline.proofs.Scalars.{IsNumeric}
use Rattle.pli_headline.proofs.Variables.{whole, whole_part, own, level_of, declared_in}
use Rattle.pli_headline.proofs.PlainNumbers.{number_for}
use Rattle.pli_headline.proofs.ArraySignatures.{array_signature, array_signed, pairs_of, known_by}
use Rattle.pli_headline.proofs.ArrayElements.{IsDeclaredArray, size_constant}
use Rattle.pli_headline.proofs.ArrayNames.{place_of_name}
use Rattle.run_steps.specs.Reach.{Family, Aims, Comes, Closed, Reach}
use Rattle.run_steps.proofs.Reach.{onward}

-- ---- the code, where the array's declaration is known

-- the offset of a place of a frame comes into a0
abbrev pub offset_by : Bool → (level place : ℕ) → Code
offset_by q level place =
    cond q [] (load_word a0 frame_register (display level)) ++ (load_word a0 (cond q frame_register a0) own_offset ++ plus a0 a0 (pos place))

abbrev pub record_by : Taken → Bool → (level place n : ℕ) → Code
record_by t q level place n =
    K.record_stored t 3 zero_register
    ++ (K.record_stored t 2 zero_register
    ++ (offset_by q level place ++ (K.record_stored t 0 a0 ++ (number a0 n ++ K.record_stored t 1 a0))))

-- bounds that are known before the program runs
pairs_known : (bs : List Bounds) → AreBounds bs → list_any is_open_pair (pairs_of bs) ≡ false
pairs_known [] are = refl
pairs_known (b ∷ bs) are =
    ap (λ q. q || list_any is_open_pair (pairs_of bs)) (known_by b.lower b.upper are.0.0 are.0.1.0 are.0.1.1) ∙ pairs_known bs are.1

size_known : (p : ℕ) → p ≤ 1024 → (p == run_time_size) ≡ false
size_known p few = grind (arith, nat_tests)

signature_known : (type : Y.LeafType) → IsScalar type → (bs : List Bounds) → AreBounds bs → is_open (array_signature type bs) ≡ false
signature_known (Y.FixedLeaf p) is bs are =
    let few = is.1 in
    ap (λ q. (if q then true else list_any is_open_pair (pairs_of bs)) || false) (size_known p (omega (arith, few))) ∙ ap (λ q. q || false) (pairs_known bs are)
signature_known Y.BitLeaf is bs are = ap (λ q. q || false) (pairs_known bs are)
signature_known (Y.CharacterLeaf (Y.ConstantExtent (pos n))) is bs are =
    ap (λ q. (if q then true else list_any is_open_pair (pairs_of bs)) || false) (size_known n is.1) ∙ ap (λ q. q || false) (pairs_known bs are)
signature_known (Y.VaryingLeaf (Y.ConstantExtent (pos n))) is bs are =
    ap (λ q. (if q then true else list_any is_open_pair (pairs_of bs)) || false) (size_known n is.1) ∙ ap (λ q. q || false) (pairs_known bs are)
signature_known _ is bs are = absurd is

-- the number by which it asks
abbrev pub number_asked : Environment → Y.DeclaredVariable → ℕ
number_asked e d = if is_open (signature_of d) then L.own_signature else number_in_table (signature_of d) e.table

pub record_form : (e : Environment) (t : Taken) (block : Names) (j : ℕ) (type : Y.LeafType) (bs : List Bounds) (d : IsDeclaredArray e block j type bs) → has_constant_size (array_variable type bs d.0) ≡ true → K.record_code e t (whole (own block j)) ≡ record_by t (level_of block j == e.level) (level_of block j) (place_of_name e block j) (number_asked e (array_variable type bs d.0))
record_form e t block j type bs declared constant =
    let v = own block j in
    let found = with_words K.record_words t in
    let level = level_of block j in
    let other = L.class_found e found v v.class ++ (L.leaf_found e (L.located e found v) 0 (L.needs_buffer (L.leaf_number e v 0)) (L.is_referred e v whole_part) ++ K.extent_recorded t (L.is_referred e v whole_part)) in
    let rest : L.NumberPlace → Code = λ n.
    K.record_stored t 2 zero_register ++ (L.frame_offset e level a0 (pos (place_of_name e block j)) ++ (K.record_stored t 0 a0 ++ (L.number_loaded e a0 n ++ K.record_stored t 1 a0))) in
    ap (λ o. (if has_constant_size (declared_in o) then K.extent_recorded t false else other) ++ rest (L.known_or_own e (declared_in o))) declared.1
    ∙ ap (λ q. (if q then K.extent_recorded t false else other) ++ rest (L.known_or_own e (array_variable type bs declared.0))) constant

pub number_known : (e : Environment) (type : Y.LeafType) (bs : List Bounds) (initial : List T.InitialItem) → IsScalar type → AreBounds bs → e.table ≡ table_of e.program → number_asked e (array_variable type bs initial) ≡ number_for (table_of e.program) (record { type = type; bounds = bs })
number_known e type bs initial is are table =
    ap (λ g. if is_open g then L.own_signature else number_in_table g e.table) (array_signed type is bs initial)
    ∙ ap (λ q. if q then L.own_signature else number_in_table (array_signature type bs) e.table) (signature_known type is bs are)
    ∙ ap (λ u. number_in_table (array_signature type bs) u) table
    ∙ ap (λ g. number_in_table g (table_of e.program)) (sym (array_signed type is bs []))

-- the offset of the record
abbrev pub given_by : Taken → Code
given_by t = load_word a0 frame_register own_offset ++ plus a0 a0 (K.record_place t 0)

pub given_is : (e : Environment) (t : Taken) → K.record_given e t ≡ given_by t
given_is e t =
    ap (λ q. (if q then [] else load_word a0 frame_register (display e.level)) ++ (load_word a0 (if q then frame_register else a0) own_offset ++ plus a0 a0 (K.record_place t 0))) (eq-eqb e.level e.level refl)

-- what follows the value
abbrev pub filling : (t behind : Taken) → Bool → (level place n : ℕ) → Code
filling t behind q level place n =
    save a0 t ++ (record_by behind q level place n ++ (given_by behind ++ (number a1 0 ++ (fetch a2 t ++ service 41))))

pub filling_form : (e : Environment) (t : Taken) (block : Names) (j : ℕ) (type : Y.LeafType) (bs : List Bounds) → IsNumeric type → (d : IsDeclaredArray e block j type bs) → save a0 t ++ (K.record_code e (with_number t) (whole (own block j)) ++ (K.record_given e (with_number t) ++ (number a1 0 ++ (fetch a2 t ++ service 41)))) ≡ filling t (with_number t) (level_of block j == e.level) (level_of block j) (place_of_name e block j) (number_asked e (array_variable type bs d.0))
filling_form e t block j type bs numeric declared =
    let b = with_number t in
    let last = number a1 0 ++ (fetch a2 t ++ service 41) in
    ap (λ c. save a0 t ++ (c ++ (K.record_given e b ++ last))) (record_form e b block j type bs declared (size_constant type numeric bs declared.0))
    ∙ ap (λ c. save a0 t ++ (record_by b (level_of block j == e.level) (level_of block j) (place_of_name e block j) (number_asked e (array_variable type bs declared.0)) ++ (c ++ last))) (given_is e b)

pub filling_is : (e : Environment) (t : Taken) (block : Names) (j : ℕ) (type : Y.LeafType) (bs : List Bounds) → IsNumeric type → IsScalar type → AreBounds bs → e.table ≡ table_of e.program → IsDeclaredArray e block j type bs → save a0 t ++ (K.record_code e (with_number t) (whole (own block j)) ++ (K.record_given e (with_number t) ++ (number a1 0 ++ (fetch a2 t ++ service 41)))) ≡ filling t (with_number t) (level_of block j == e.level) (level_of block j) (place_of_name e block j) (number_for (table_of e.program) (record { type = type; bounds = bs }))
filling_is e t block j type bs numeric is are table declared =
    filling_form e t block j type bs numeric declared
    ∙ ap (λ n. filling t (with_number t) (level_of block j == e.level) (level_of block j) (place_of_name e block j) n) (number_known e type bs declared.0 is are table)

-- ---- words of the record

-- a register goes into a word for temporaries
pub word_kept : {links : Links} {code : List Instr} {i : ℕ} {g : Ground} {v : Services} {h t : ℕ → ℕ} {rs : Base → List (ℕ × ℕ)} (temps : Temporaries g) (f : Family) (r : Register) (z : ℤ) (j x : ℕ) → words_place j 1 ≡ z → j < g.words → x < 2 ^ 32 → IsNear r.index → ((b : Base) (w : Whole) → Known g v h t rs b w → w.machine.registers r.index ≡ x) → Free rs 31 → Linked links code i (store_word frame_register r z) → ((b : Base) → At b i (Known g v h t rs b) (f b)) → Reach code i f v (i + size_of (store_word frame_register r z)) v (λ b w. At b (i + size_of (store_word frame_register r z)) (Known g v h (put t j x) rs b) w)
word_kept {i = i} {g = g} {t = t} temps f r z j x e room fits near value far l at =
    store_piece g (put t j x) i f r z (g.frame - 4 * suc j) (λ b. x) (subst (λ u. PlaceOf g u (g.frame - 4 * suc j)) e (word_place g j room)) near value (λ b. refl) (λ b m len o. temps.kept t b m j x room len fits o) far l at

pub record_word : (words k j : ℕ) → words + 4 - k ≡ j + 1 → words_place j 1 ≡ neg_ℤ (pos (4 * (words + 4 - k)))
record_word words k j e = ap (λ n. neg_ℤ (pos (4 * n))) (sym e)

pub free_in : Free nothing 10
free_in = record { reserved_stay = λ y u. refl; known_stay = λ b y u o. o; set = λ y u. refl }

pub far_in : (x : Base → ℕ) → Free (with' 10 x nothing) 31
far_in x = record { reserved_stay = λ y u. refl; known_stay = λ b y u o. o; set = λ y u. refl }

pub far_none : Free nothing 31
far_none = record { reserved_stay = λ y u. refl; known_stay = λ b y u o. o; set = λ y u. refl }

place_sum : (base place : ℕ) → base + place < 2 ^ 24 → sum base (word (pos place)) ≡ base + place
place_sum base place few = omega (arith, ints, few)

-- the frame's own offset, from a register that has its address
pub own_piece : {links : Links} {code : List Instr} {i : ℕ} {g : Ground} {v : Services} {h t : ℕ → ℕ} {rs : Base → List (ℕ × ℕ)} (c : ℕ) (f : Family) (r : Register) (base : ℕ) → PlaceFrom base (pos 36) (base + 36) → ((b : Base) (w : Whole) → Known g v h t rs b w → w.machine.registers r.index ≡ b.at + base) → ((b : Base) (m : List ℕ) → g.memory t b m → load 4 m (base + 36) ≡ base) → Linked links code i (load_word a0 r own_offset) → ((b : Base) → At b i (Known g v h t rs b) (f b)) → Reach code c f v (c + 1) v (λ b w. At b (i + 1) (Known g v h t (valued base) b) w)
own_piece {g = g} {v = v} {h = h} {t = t} c f r base place based own l at =
    straight c f v v (λ b. Known g v h t (valued base) b) l (omega arith) (λ b. (at b).pc)
    (λ b. let o = (at b).holds in (
      at_place b place (sum ((f b).machine.registers r.index) (word (pos 36))) (ap (λ u. sum u (word (pos 36))) (based b (f b) o)),
      record {
        body = record { services = o.body.services; registers = o.body.registers; bytes = o.body.bytes; memory = o.body.memory };
        regs = (own b _ o.body.memory, tt);
      },
    ))

offset_from : {R : Type 0} {links : Links} {code : List Instr} {i : ℕ} {g : Ground} {v : Services} {h t : ℕ → ℕ} {rs : Base → List (ℕ × ℕ)} {aims : Aims R} {flow : Flow R} (closed : Closed code aims) (f : Family) (r : Register) (base place : ℕ) → PlaceFrom base (pos 36) (base + 36) → base + place < 2 ^ 24 → ((b : Base) (w : Whole) → Known g v h t rs b w → w.machine.registers r.index ≡ b.at + base) → ((b : Base) (m : List ℕ) → g.memory t b m → load 4 m (base + 36) ≡ base) → Linked links code i (load_word a0 r own_offset ++ plus a0 a0 (pos place)) → ((b : Base) → At b i (Known g v h t rs b) (f b)) → ((f' : Family) → ((b : Base) → At b (i + size_of (load_word a0 r own_offset ++ plus a0 a0 (pos place))) (Known g v h t (valued (base + place)) b) (f' b)) → Comes code (i + size_of (load_word a0 r own_offset ++ plus a0 a0 (pos place))) f' v aims flow) → Comes code i f v aims flow
offset_from {code = code} {i = i} {v = v} {aims = aims} {flow = flow} closed f r base place at36 few based own l at next' =
    let first = load_word a0 r own_offset in
    let last = plus a0 a0 (pos place) in
    let size = size_append first last in
    let there : i + 1 + size_of last ≡ i + size_of (first ++ last) = omega (arith, size) in
    onward closed (own_piece i f r base at36 based own (front_of first last l) at) (λ f1 at1.
    onward closed (plus_own (i + 1) f1 a0 (pos place) (λ b. base) (λ b. base + place) (above_small place (omega (arith, few))) (λ b. omega (arith, few)) (λ y u. refl) (λ b. place_sum base place few) free_in (far_in (λ b. base)) (back_of first last l) at1) (λ f2 at2.
    subst (λ n. Comes code n f2 v aims flow) (sym there)
    (next' f2 (λ b. record { pc = (at2 b).pc ∙ ap (address b) there; holds = (at2 b).holds }))))

-- the offset of a place of the frame of a level
pub place_piece : {R : Type 0} {links : Links} {code : List Instr} {i : ℕ} {g : Ground} {v : Services} {h t : ℕ → ℕ} {aims : Aims R} {flow : Flow R} (q : Bool) (level : ℕ) (closed : Closed code aims) (f : Family) (base place : ℕ) → Reaches q level g base → PlaceFrom base (pos 36) (base + 36) → base + place < 2 ^ 24 → ((b : Base) (m : List ℕ) → g.memory t b m → load 4 m (base + 36) ≡ base) → Linked links code i (offset_by q level place) → ((b : Base) → At b i (Known g v h t nothing b) (f b)) → ((f' : Family) → ((b : Base) → At b (i + size_of (offset_by q level place)) (Known g v h t (valued (base + place)) b) (f' b)) → Comes code (i + size_of (offset_by q level place)) f' v aims flow) → Comes code i f v aims flow
place_piece true level closed f base place reaches at36 few own l at next' =
    offset_from closed f frame_register base place at36 few (λ b w o. frame_is o.body ∙ ap (λ u. b.at + u) reaches) own l at next'
place_piece {code = code} {i = i} {g = g} {v = v} {t = t} {aims = aims} {flow = flow} false level closed f base place reaches at36 few own l at next' =
    let first = load_word a0 frame_register (display level) in
    let rest = load_word a0 a0 own_offset ++ plus a0 a0 (pos place) in
    let size = size_append first rest in
    let there : i + size_of first + size_of rest ≡ i + size_of (first ++ rest) = omega (arith, size) in
    onward closed (load_piece i f a0 (display level) (g.frame + (144 + 4 * level)) (λ b. b.at + base) reaches.0 (λ b m o. reaches.1 t b m o) free_in far_none (front_of first rest l) at) (λ f1 at1.
    offset_from closed f1 a0 base place at36 few (λ b w o. o.regs.0) own (back_of first rest l) at1 (λ f2 at2.
    subst (λ n. Comes code n f2 v aims flow) (sym there)
    (next' f2 (λ b. record { pc = (at2 b).pc ∙ ap (address b) there; holds = (at2 b).holds }))))
