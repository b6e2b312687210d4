-- Calls of an input that comes from a feed.
use Rattle.std.proofs.Common.{◌≡◌, ◌≤◌, ◌<◌, ℕ, zero, suc, ◌-◌, Bool, true, false, List, [], ◌∷◌, ◌++◌, length}
use Rattle.std.proofs.Common.{Option, Some, None, Result, Ok, Err, ℤ, nat_le, if◌then◌else◌, take, replicate, refl, sym}
use Rattle.std.proofs.Common.{ap, subst, ◌∙◌, arith}
use Rattle.std.specs.Prelude.{MatchOption, ⊤}
use Rattle.std.proofs.lemmas.Bool.Decides.{nat_tests}
use Rattle.pli_meaning.specs.InputLines.{Input, Mark, CharacterMark, LineEndMark, characters, next_line}
use Rattle.pli_meaning.specs.InputLines.{behind_lines, further, further_in, at_column, has_character}
use Rattle.pli_edit.specs.Faults.{is_fault, is_read}
use Rattle.pli_edit.specs.Feeding.{Agrees, Fed, is_broken}
use Rattle.pli_edit.specs.Fields.{IsLineField, IsNumberOf, TakesText}
use Rattle.std.specs.Prelude.{Vec}
use Rattle.std.specs.declared.alloc.Global.{Global}
use Rattle.pli_meaning.specs.Texts.{fitted}
use Rattle.pli_edit.proofs.Taking.{field-padded}
use Rattle.pli_edit.specs.ReadChains.{reads_weaken}
use Rattle.pli_edit.specs.KnownMarks.{Marked, known_from, marks_left, wants_characters, wants_column, wants_further}
use Rattle.pli_edit.specs.KnownMarks.{wants_lines, wants_next_line}
use Rattle.pli_edit.specs.Marks.{ends_line, IsInLine}
use Rattle.pli_edit.specs.Streams.{Breaks, Fails, Goes, Held, Moves, PassesLine, Reaches, Tells, has_failed, input_of}
use Rattle.pli_edit.specs.Streams.{wants_field}
use Rattle.pli_edit.specs.declared.fault.EditFault.{EditFault}
use Rattle.pli_edit.specs.declared.fault.EditFault.TheVariants as E
use Rattle.pli_edit.proofs.Lines.{field_so}
use Rattle.pli_edit.proofs.Moving.{breaks_then, goes_here, goes_then, moves_weaken}
use Rattle.pli_edit.proofs.Passing.{gone_further, lines_from}

-- ---- calls that read nothing

pub fails_at_once : (w : List Mark → Bool) (h : Held) → has_failed h ≡ true → Fails w h h
fails_at_once w h e = (record { readings = []; reads = refl; told = λ all agrees. tt }, e, omega arith)

pub reaches_unread : (w : List Mark → Bool) (claim : Input → Input → Type 0) (h k : Held) → has_failed h ≡ false →
    k.marked.fed ≡ h.marked.fed →
    ((all : List ℕ) → Agrees h.marked.fed all → claim (input_of h all) (input_of k all)) → Reaches w claim h k
reaches_unread w claim h k e same so = (
  record { readings = []; reads = same; told = λ all agrees. so all (subst (λ f. Agrees f all) same agrees) },
  ap (λ (f : Fed). is_broken f.standing) same ∙ e,
)

-- ---- claims

pub goes_map : (w : List Mark → Bool) (claim goal : List Mark → List Mark → Type 0) (a b : Marked) →
    Goes w claim a b → ((old new : List Mark) → claim old new → goal old new) → Goes w goal a b
goes_map w claim goal a b h so =
    record {
      readings = h.readings;
      reads = h.reads;
      told =
          λ all agrees. so (marks_left a all) (marks_left b all) (h.told all agrees);
    }

pub reaches_map : (w : List Mark → Bool) (claim goal : Input → Input → Type 0) (h k : Held) → Reaches w claim h k →
    ((i j : Input) → claim i j → goal i j) → Reaches w goal h k
reaches_map w claim goal h k r so = (
  goes_map w (λ old new. claim (record { marks = old; column = h.column }) (record { marks = new; column = k.column }))
      (λ old new. goal (record { marks = old; column = h.column }) (record { marks = new; column = k.column }))
      h.marked k.marked r.0 (λ old new. so _ _),
  r.1,
)

-- the same at the columns that they have, where more is said to be wanted
pub reaches_at : (v w : List Mark → Bool) (claim goal : Input → Input → Type 0) (h k : Held) → Reaches v claim h k →
    ((ms : List Mark) → v ms ≡ true → w ms ≡ true) →
    ((old new : List Mark) → claim (record { marks = old; column = h.column })
    (record { marks = new; column = k.column }) →
    goal (record { marks = old; column = h.column }) (record { marks = new; column = k.column })) → Reaches w goal h k
reaches_at v w claim goal h k r wanted so = (
  record {
    readings = r.0.readings;
    reads =
        reads_weaken (λ p. v (known_from h.marked.lines p)) (λ p. w (known_from h.marked.lines p)) h.marked.pending
        r.0.readings h.marked.fed k.marked.fed
        (λ q t. wanted (known_from h.marked.lines q) t) r.0.reads;
    told = λ all agrees. so (marks_left h.marked all) (marks_left k.marked all) (r.0.told all agrees);
  },
  r.1,
)

-- of a way that is gone
pub reaches_gone : (w : List Mark → Bool) (claim : List Mark → List Mark → Type 0) (goal : Input → Input → Type 0)
    (h k : Held) → Goes w claim h.marked k.marked →
    has_failed k ≡ false → ((old new : List Mark) → claim old new →
    goal (record { marks = old; column = h.column }) (record { marks = new; column = k.column })) →
    Reaches w goal h k
reaches_gone w claim goal h k r whole so = (
  goes_map w claim (λ old new.
      goal (record { marks = old; column = h.column }) (record { marks = new; column = k.column })) h.marked k.marked
      r so,
  whole,
)

pub tells_map : (A B : Type 0) (w : List Mark → Bool) (claim goal : Input → Input → Type 0) (fault : EditFault)
    (h k : Held) →
    Tells {A = A} w claim (Err fault) h k → ((i j : Input) → claim i j → goal i j) →
    Tells {A = B} w goal (Err fault) h k
tells_map A B w claim goal E.AtEnd h k r so = reaches_map w claim goal h k r so
tells_map A B w claim goal E.TooWide h k r so = reaches_map w claim goal h k r so
tells_map A B w claim goal E.NotNumber h k r so = reaches_map w claim goal h k r so
tells_map A B w claim goal E.Read h k r so = r
tells_map A B w claim goal E.Write h k r so = reaches_map w claim goal h k r so
tells_map A B w claim goal E.Memory h k r so = reaches_map w claim goal h k r so

-- a call that answers something else than Read
pub reaches_tells : {A : Type 0} (w : List Mark → Bool) (claim : Input → Input → Type 0) (result : Result A EditFault)
    (h k : Held) →
    is_fault is_read result ≡ false → Reaches w claim h k → Tells w claim result h k
reaches_tells w claim (Ok x) h k e r = r
reaches_tells w claim (Err E.AtEnd) h k e r = r
reaches_tells w claim (Err E.TooWide) h k e r = r
reaches_tells w claim (Err E.NotNumber) h k e r = r
reaches_tells w claim (Err E.Read) h k e r = cc
reaches_tells w claim (Err E.Write) h k e r = r
reaches_tells w claim (Err E.Memory) h k e r = r

pub number_is_no_read : (number : Option ℤ) (result : Result ℤ EditFault) → IsNumberOf number result →
    is_fault is_read result ≡ false
number_is_no_read number (Ok z) h = refl
number_is_no_read number (Err fault) h = ap is_read h.1

-- ---- a call behind a look

reaches_then : (v w : List Mark → Bool) (is_so : List Mark → Type 0) (claim goal : Input → Input → Type 0)
    (h m k : Held) → Moves w [] h.marked m.marked → m.column ≡ h.column →
    ((all : List ℕ) → Agrees m.marked.fed all → is_so (marks_left m.marked all)) → Reaches v claim m k →
    ((ms : List Mark) → v ms ≡ true → w ms ≡ true) →
    ((i j : Input) → is_so i.marks → claim i j → goal i j) → Reaches w goal h k
reaches_then v w is_so claim goal h m k move same there r wanted so = (
  goes_then v w [] (λ old new.
      claim (record { marks = old; column = m.column }) (record { marks = new; column = k.column }))
      (λ old new. goal (record { marks = old; column = h.column }) (record { marks = new; column = k.column }))
      h.marked m.marked k.marked move r.0 (λ _ ms t. wanted ms t)
      (λ all agrees _ told.
      subst (λ c. goal (record { marks = marks_left m.marked all; column = c })
      (record { marks = marks_left k.marked all; column = k.column })) same
      (so (record { marks = marks_left m.marked all; column = m.column }) _ (there all agrees) told)),
  r.1,
)

pub tells_then : {A : Type 0} (v w : List Mark → Bool) (is_so : List Mark → Type 0)
    (claim goal : Input → Input → Type 0) (result : Result A EditFault) (h m k : Held) →
    Moves w [] h.marked m.marked → m.column ≡ h.column →
    ((all : List ℕ) → Agrees m.marked.fed all → is_so (marks_left m.marked all)) → Tells v claim result m k →
    ((ms : List Mark) → v ms ≡ true → w ms ≡ true) → ((i j : Input) → is_so i.marks → claim i j → goal i j) →
    Tells w goal result h k
tells_then v w is_so claim goal (Ok x) h m k move same there r wanted so =
    reaches_then v w is_so claim goal h m k move same there r wanted so
tells_then v w is_so claim goal (Err E.AtEnd) h m k move same there r wanted so =
    reaches_then v w is_so claim goal h m k move same there r wanted so
tells_then v w is_so claim goal (Err E.TooWide) h m k move same there r wanted so =
    reaches_then v w is_so claim goal h m k move same there r wanted so
tells_then v w is_so claim goal (Err E.NotNumber) h m k move same there r wanted so =
    reaches_then v w is_so claim goal h m k move same there r wanted so
tells_then v w is_so claim goal (Err E.Read) h m k move same there r wanted so =
    breaks_then v w [] h.marked m.marked k.marked move r (λ _ ms t. wanted ms t)
tells_then v w is_so claim goal (Err E.Write) h m k move same there r wanted so =
    reaches_then v w is_so claim goal h m k move same there r wanted so
tells_then v w is_so claim goal (Err E.Memory) h m k move same there r wanted so =
    reaches_then v w is_so claim goal h m k move same there r wanted so

-- ---- whether a character is left

pub reaches_left : (is_left : Bool) (a b : Marked) (column : ℕ) → Moves (wants_characters 1) [] a b →
    ((all : List ℕ) → Agrees b.fed all → has_character (marks_left b all) ≡ is_left) →
    Reaches (wants_characters 1) (λ i j. (j ≡ i) × (has_character i.marks ≡ is_left))
    (record { marked = a; column = column }) (record { marked = b; column = column })
reaches_left is_left a b column h so = (
  goes_here (wants_characters 1) []
      (λ old new. ◌≡◌ {A = Input} (record { marks = new; column = column })
      (record { marks = old; column = column }) × (has_character old ≡ is_left)) a b h
      (λ all agrees. (refl, so all agrees)),
  h.whole,
)

-- a field wants that at least
pub field_wanted : (width : ℕ) (ms : List Mark) → wants_characters 1 ms ≡ true → wants_field width ms ≡ true
field_wanted width [] e = refl
field_wanted width (LineEndMark ∷ ms) e = field_wanted width ms e
field_wanted width (CharacterMark b ∷ ms) e = cc

pub width_wanted : (width : ℕ) (ms : List Mark) → wants_characters width ms ≡ true → wants_field width ms ≡ true
width_wanted zero ms e = cc
width_wanted (suc n) ms e =
    let same : suc n ≡ suc (suc n - 1) = omega arith in
    subst (λ k. wants_characters k ms ≡ true) same e

-- ---- a field where it stands

pub field_there : {R : Type 0} (now : R → List ℕ) (found : Option R) (n : ℕ) (h : Held) → has_failed h ≡ false →
    MatchOption found ⊤ (λ line. (all : List ℕ) → Agrees h.marked.fed all → IsInLine n (marks_left h.marked all) ×
    (now line ≡ characters n (marks_left h.marked all))) →
    MatchOption found ⊤ (λ field. (has_failed h ≡ false) ×
    ((all : List ℕ) → Agrees h.marked.fed all → IsLineField n (input_of h all) (now field)))
field_there now None n h e k = k
field_there now (Some line) n h e k = (e, λ all agrees. field_so n (input_of h all) (now line) (k all agrees))

-- ---- lines and columns

pub from_any_column : (n c : ℕ) (ms : List Mark) → 0 < n →
    lines_from n ms ≡ behind_lines n (record { marks = ms; column = c })
from_any_column zero c ms h = absurd (omega arith)
from_any_column (suc n) c ms h = refl

nat_le_true : (m n : ℕ) → m ≤ n → nat_le m n ≡ true
nat_le_true m n h = grind (arith, nat_tests)

pub line_wanted : (n : ℕ) (ms : List Mark) → wants_lines 1 ms ≡ true → wants_next_line n ms ≡ true
line_wanted n [] e = refl
line_wanted n (LineEndMark ∷ ms) e = cc
line_wanted n (CharacterMark b ∷ ms) e = line_wanted n ms e

pub behind_line_wanted : (n : ℕ) (front ms : List Mark) → ends_line front ≡ true → wants_further n ms ≡ true →
    wants_next_line n (front ++ ms) ≡ true
behind_line_wanted n [] ms e t = cc
behind_line_wanted n (LineEndMark ∷ []) ms e t = t
behind_line_wanted n (LineEndMark ∷ m ∷ front) ms e t = cc
behind_line_wanted n (CharacterMark b ∷ front) ms e t = behind_line_wanted n front ms e t

-- behind a line, so far further
pub next_line_further : (n column : ℕ) (a m b : Marked) → PassesLine a m →
    Goes (wants_further n) (gone_further n 1 column) m b →
    Goes (wants_next_line n) (λ old new. record { marks = new; column = column } ≡ further n 1 (next_line old)) a b
next_line_further n column a m b h k =
    goes_then (wants_further n) (wants_next_line n) h.0 (gone_further n 1 column)
    (λ old new. record { marks = new; column = column } ≡ further n 1 (next_line old)) a m b
    (moves_weaken (wants_lines 1) (wants_next_line n) h.0 a m h.1 (λ ms t. line_wanted n ms t)) k
    (λ opened ms t. behind_line_wanted n h.0 ms (h.2 opened) t)
    (λ all agrees _ e. e ∙ ap (further n 1) (sym (h.3 all agrees)))

pub next_line_breaks : (n : ℕ) (a m b : Marked) → PassesLine a m → Breaks (wants_further n) m b →
    Breaks (wants_next_line n) a b
next_line_breaks n a m b h k =
    breaks_then (wants_further n) (wants_next_line n) h.0 a m b
    (moves_weaken (wants_lines 1) (wants_next_line n) h.0 a m h.1 (λ ms t. line_wanted n ms t)) k
    (λ opened ms t. behind_line_wanted n h.0 ms (h.2 opened) t)

nat_le_false : (m n : ℕ) → n < m → nat_le m n ≡ false
nat_le_false m n h = grind (arith, nat_tests)

pub column_far : (n column : ℕ) (ms : List Mark) → n < column → wants_next_line (n - 1) ms ≡ true →
    wants_column n column ms ≡ true
column_far n column ms h t =
    ap (λ b. if b then wants_further (n - column) ms else wants_next_line (n - 1) ms) (nat_le_false column n h) ∙ t

pub column_near : (n column : ℕ) (ms : List Mark) → column ≤ n → wants_further (n - column) ms ≡ true →
    wants_column n column ms ≡ true
column_near n column ms h t =
    ap (λ b. if b then wants_further (n - column) ms else wants_next_line (n - 1) ms) (nat_le_true column n h) ∙ t

pub at_far : (n : ℕ) (i : Input) → n < i.column → at_column n i ≡ further_in (n - 1) (behind_lines 1 i)
at_far n i h = ap (λ b. if b then further_in (n - i.column) i else further_in (n - 1) (behind_lines 1 i))
    (nat_le_false i.column n h)

pub at_near : (n : ℕ) (i : Input) → i.column ≤ n → at_column n i ≡ further_in (n - i.column) i
at_near n i h = ap (λ b. if b then further_in (n - i.column) i else further_in (n - 1) (behind_lines 1 i))
    (nat_le_true i.column n h)

-- ---- fields

pub field_taken : (w n : ℕ) (first field items : List ℕ) (old : List Mark) → first ≡ [] →
    field ≡ first ++ characters w old → n ≡ length field →
    items ≡ take w field ++ replicate (w - n) 32 → items ≡ fitted w (characters w old)
field_taken w n first field items old none put count e =
    let same : field ≡ characters w old = put ∙ ap (λ l. l ++ characters w old) none in
    e ∙ (ap (λ t. take w t ++ replicate (w - n) 32) same ∙ field-padded w n (characters w old) (count ∙ ap length same))

pub no_field_left : (width : ℕ) (i j : Input) → has_character i.marks ≡ false → j ≡ i →
    TakesText width i (has_character i.marks) (Err E.AtEnd) j
no_field_left width i j none same = subst (λ b. TakesText width i b (Err E.AtEnd) j) (sym none) (refl, same)

pub text_left : (width : ℕ) (result : Result (Vec ℕ Global) EditFault) (i j : Input) → has_character i.marks ≡ true →
    TakesText width i true result j →
    TakesText width i (has_character i.marks) result j
text_left width result i j some h = subst (λ b. TakesText width i b result j) (sym some) h
