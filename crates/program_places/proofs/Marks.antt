-- The code of a program stands with its marks where each symbol is marked once at most.
use Rattle.std.proofs.Common.{◌≡◌, ℕ, suc, ◌+◌, ◌*◌, ◌≤◌, List, [], ◌∷◌, ◌++◌, length, Bool, true, false, inl, inr}
use Rattle.std.proofs.Common.{refl}
use Rattle.std.proofs.Common.{sym, ap, ◌∙◌, subst, arith}
use Rattle.std.specs.Prelude.{cond}
use Rattle.std.proofs.lemmas.Bool.{eq-eqb, and_from, or_left}
use Rattle.rv_meaning.specs.declared.instr.Instr.{Instr}
use Rattle.pli_coding.specs.Assembly.{Symbol, ProcedureEntry, ReturnPlace, LabelPlace, RaiseCondition, RaiseError}
use Rattle.pli_coding.specs.Assembly.{ErrorEnd, ExtentRoutine, DataPlace, same_symbol, Datum, Item, Plain, BaseIn}
use Rattle.pli_coding.specs.Assembly.{OffsetOf, OffsetAhead, JumpTo, CallTo, JumpAhead, JumpBack, Mark, Code, item_size}
use Rattle.pli_coding.specs.Assembly.{size_of}
use Rattle.pli_coding.specs.Linking.{Links, marks_from, marked_place, links_of, data_start}
use Rattle.pli_coding.specs.Images.{linked_code}
use Rattle.pli_coding.specs.StaticData.{data_of_symbol, data_named, static_data}
use Rattle.code_marks.specs.CodeData.{Has}
use Rattle.code_marks.specs.CodeMarks.{symbol_times, symbols_marked}
use Rattle.code_marks.proofs.DataOnce.{same_bytes-same, same_datum-same, has_back, placed_same, static_has}
use Rattle.run_steps.specs.DataNamed.{IsNamed}
use Rattle.run_steps.specs.Engine.{most_code}
use Rattle.run_steps.specs.Items.{Linked}
use Rattle.run_steps.specs.Linking.{times_marked, HasItem, HasItems}
use Rattle.run_steps.proofs.Jumps.{front_of, back_of, rest_of}
use Rattle.run_steps.proofs.Linking.{has_items, linked_length}
use Rattle.program_places.specs.Placed.{IsMarked, MarksStand, Placed}

-- ---- how often a symbol is marked

pub symbol_same : (s : Symbol) → same_symbol s s ≡ true
symbol_same (ProcedureEntry b) = eq-eqb b b refl
symbol_same (ReturnPlace b) = eq-eqb b b refl
symbol_same (LabelPlace b l) = and_from _ _ (eq-eqb b b refl) (same_bytes-same l)
symbol_same RaiseCondition = refl
symbol_same RaiseError = refl
symbol_same ErrorEnd = refl
symbol_same (ExtentRoutine b i) = and_from _ _ (eq-eqb b b refl) (eq-eqb i i refl)
symbol_same (DataPlace d) = same_datum-same d

times_are : (s : Symbol) (at : ℕ) (xs : Code) → times_marked s (marks_from at xs) ≡ symbol_times s (symbols_marked xs)
times_are s at [] = refl
times_are s at (Plain i ∷ xs) = times_are s (at + 4 * item_size (Plain i)) xs
times_are s at (BaseIn r ∷ xs) = times_are s (at + 4 * item_size (BaseIn r)) xs
times_are s at (OffsetOf r t ∷ xs) = times_are s (at + 4 * item_size (OffsetOf r t)) xs
times_are s at (OffsetAhead r words ∷ xs) = times_are s (at + 4 * item_size (OffsetAhead r words)) xs
times_are s at (JumpTo t ∷ xs) = times_are s (at + 4 * item_size (JumpTo t)) xs
times_are s at (CallTo t ∷ xs) = times_are s (at + 4 * item_size (CallTo t)) xs
times_are s at (JumpAhead words ∷ xs) = times_are s (at + 4 * item_size (JumpAhead words)) xs
times_are s at (JumpBack words ∷ xs) = times_are s (at + 4 * item_size (JumpBack words)) xs
times_are s at (Mark t ∷ xs) = ap (λ n. cond (same_symbol s t) (suc n) n) (times_are s at xs)

some_first : (s : Symbol) (ss : List Symbol) → 1 ≤ symbol_times s (s ∷ ss)
some_first s ss =
    subst (λ q. 1 ≤ cond q (suc (symbol_times s ss)) (symbol_times s ss)) (sym (symbol_same s)) (omega arith)

some_by : (q : Bool) (n : ℕ) → 1 ≤ n → 1 ≤ cond q (suc n) n
some_by true n h = omega arith
some_by false n h = h

some_behind :
    (s : Symbol) (x : Item) (xs : Code) → 1 ≤ symbol_times s (symbols_marked xs) →
    1 ≤ symbol_times s (symbols_marked (x ∷ xs))
some_behind s (Plain i) xs h = h
some_behind s (BaseIn r) xs h = h
some_behind s (OffsetOf r t) xs h = h
some_behind s (OffsetAhead r words) xs h = h
some_behind s (JumpTo t) xs h = h
some_behind s (CallTo t) xs h = h
some_behind s (JumpAhead words) xs h = h
some_behind s (JumpBack words) xs h = h
some_behind s (Mark t) xs h = some_by (same_symbol s t) (symbol_times s (symbols_marked xs)) h

-- ---- marks that stand

abbrev AreOnce : Links → Code → Type 0
AreOnce links xs = (s : Symbol) → 1 ≤ symbol_times s (symbols_marked xs) → times_marked s links.marks ≡ 1

mark_stands :
    (links : Links) (code : List Instr) (i : ℕ) (x : Item) (xs : Code) → HasItem links code i x →
    AreOnce links (x ∷ xs) → IsMarked links i x
mark_stands links code i (Plain y) xs h once = tt
mark_stands links code i (BaseIn r) xs h once = tt
mark_stands links code i (OffsetOf r t) xs h once = tt
mark_stands links code i (OffsetAhead r words) xs h once = tt
mark_stands links code i (JumpTo t) xs h once = tt
mark_stands links code i (CallTo t) xs h once = tt
mark_stands links code i (JumpAhead words) xs h once = tt
mark_stands links code i (JumpBack words) xs h once = tt
mark_stands links code i (Mark s) xs h once = h (symbol_same s) (once s (some_first s (symbols_marked xs)))

marks_stand :
    (links : Links) (code : List Instr) (i : ℕ) (xs : Code) → HasItems links code i xs → AreOnce links xs →
    MarksStand links i xs
marks_stand links code i [] h once = tt
marks_stand links code i (x ∷ xs) h once = (
  mark_stands links code i x xs h.0 once,
  marks_stand links code (i + item_size x) xs h.1 (λ s some. once s (some_behind s x xs some)),
)

-- ---- data that is named has a place

symbol_has : (d : Datum) (s : Symbol) (ds : List Datum) → s ≡ DataPlace d → Has (data_of_symbol s ++ ds) d
symbol_has d s ds e =
    subst (λ u. Has (data_of_symbol u ++ ds) d) (sym e) (or_left _ _ (same_datum-same d))

pub named_has : (d : Datum) (xs : Code) → IsNamed d xs → Has (data_named xs) d
named_has d [] h = absurd h
named_has d (Plain i ∷ xs) (inl h) = absurd h
named_has d (Plain i ∷ xs) (inr h) = named_has d xs h
named_has d (BaseIn r ∷ xs) (inl h) = absurd h
named_has d (BaseIn r ∷ xs) (inr h) = named_has d xs h
named_has d (OffsetOf r s ∷ xs) (inl h) = symbol_has d s (data_named xs) h
named_has d (OffsetOf r s ∷ xs) (inr h) = has_back (data_of_symbol s) (data_named xs) d (named_has d xs h)
named_has d (OffsetAhead r words ∷ xs) (inl h) = absurd h
named_has d (OffsetAhead r words ∷ xs) (inr h) = named_has d xs h
named_has d (JumpTo s ∷ xs) (inl h) = absurd h
named_has d (JumpTo s ∷ xs) (inr h) = named_has d xs h
named_has d (CallTo s ∷ xs) (inl h) = absurd h
named_has d (CallTo s ∷ xs) (inr h) = named_has d xs h
named_has d (JumpAhead words ∷ xs) (inl h) = absurd h
named_has d (JumpAhead words ∷ xs) (inr h) = named_has d xs h
named_has d (JumpBack words ∷ xs) (inl h) = absurd h
named_has d (JumpBack words ∷ xs) (inr h) = named_has d xs h
named_has d (Mark s ∷ xs) (inl h) = absurd h
named_has d (Mark s ∷ xs) (inr h) = named_has d xs h

-- ---- the whole code

pub whole_linked : (c : Code) → length (linked_code c) ≤ most_code → Linked (links_of c) (linked_code c) 0 c
whole_linked c fits =
    let n = linked_length (links_of c) 0 c in
    record {
      small' = fits;
      inside = omega (arith, n);
      has = has_items (links_of c) c refl;
      named = λ d h. placed_same d (data_start c) (static_data c) ∙ static_has c d (named_has d c h);
    }

-- where each symbol is marked once at most
pub whole_placed :
    (c : Code) → length (linked_code c) ≤ most_code → ((s : Symbol) → symbol_times s (symbols_marked c) ≤ 1) →
    Placed (links_of c) (linked_code c) 0 c
whole_placed c fits most =
    let l = whole_linked c fits in
    record {
      linked = l;
      marks = marks_stand (links_of c) (linked_code c) 0 c l.has
          (λ s some.
          let e = times_are s 0 c in
          let m = most s in
          omega (arith, e, m, some));
    }

-- ---- parts of placed code

marks_front : (links : Links) (i : ℕ) (xs ys : Code) → MarksStand links i (xs ++ ys) → MarksStand links i xs
marks_front links i [] ys h = tt
marks_front links i (x ∷ xs) ys h = (h.0, marks_front links (i + item_size x) xs ys h.1)

marks_back :
    (links : Links) (i : ℕ) (xs ys : Code) → MarksStand links i (xs ++ ys) → MarksStand links (i + size_of xs) ys
marks_back links i [] ys h = let e : i ≡ i + 0 = omega arith in subst (λ n. MarksStand links n ys) e h
marks_back links i (x ∷ xs) ys h =
    let e : i + item_size x + size_of xs ≡ i + (item_size x + size_of xs) = omega arith in
    subst (λ n. MarksStand links n ys) e (marks_back links (i + item_size x) xs ys h.1)

pub placed_front :
    {links : Links} {code : List Instr} {i : ℕ} (xs ys : Code) → Placed links code i (xs ++ ys) →
    Placed links code i xs
placed_front {links} {code} {i} xs ys p =
    record { linked = front_of xs ys p.linked; marks = marks_front links i xs ys p.marks }

pub placed_back :
    {links : Links} {code : List Instr} {i : ℕ} (xs ys : Code) → Placed links code i (xs ++ ys) →
    Placed links code (i + size_of xs) ys
placed_back {links} {code} {i} xs ys p =
    record { linked = back_of xs ys p.linked; marks = marks_back links i xs ys p.marks }

pub placed_rest :
    {links : Links} {code : List Instr} {i : ℕ} (x : Item) (xs : Code) → Placed links code i (x ∷ xs) →
    Placed links code (i + item_size x) xs
placed_rest x xs p = record { linked = rest_of x xs p.linked; marks = p.marks.1 }

-- the same place, or the same code, said otherwise
pub placed_at :
    {links : Links} {code : List Instr} {i : ℕ} (j : ℕ) (xs : Code) → i ≡ j → Placed links code i xs →
    Placed links code j xs
placed_at {links} {code} j xs e p = subst (λ n. Placed links code n xs) e p

pub placed_as :
    {links : Links} {code : List Instr} {i : ℕ} {xs : Code} (ys : Code) → xs ≡ ys → Placed links code i xs →
    Placed links code i ys
placed_as {links} {code} {i} ys e p = subst (λ u. Placed links code i u) e p

-- behind a mark, which takes no word
pub behind_mark :
    {links : Links} {code : List Instr} {i : ℕ} (s : Symbol) (xs : Code) → Placed links code i (Mark s ∷ xs) →
    Placed links code i xs
behind_mark {i = i} s xs p = placed_at i xs (omega arith) (placed_rest (Mark s) xs p)

pub mark_place :
    {links : Links} {code : List Instr} {i : ℕ} (s : Symbol) (xs : Code) → Placed links code i (Mark s ∷ xs) →
    marked_place s links.marks ≡ 4 * i
mark_place s xs p = p.marks.0
