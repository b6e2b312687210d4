-- A line that is begun before a field: ends of lines that were looked over are taken.
use Rattle.std.proofs.Common.{◌≡◌, ◌<◌, ℕ, zero, suc, ◌+◌, Bool, true, false, List, [], ◌++◌, length, replicate, nat_lt}
use Rattle.std.proofs.Common.{Result, Ok, Err, if◌then◌else◌, refl, sym, ap, subst, ◌∙◌, arith}
use Rattle.std.specs.Prelude.{MatchResult, Vec}
use Rattle.std.specs.declared.alloc.Global.{Global}
use Rattle.std.proofs.lemmas.Bool.Decides.{nat_tests}
use Rattle.std.proofs.lemmas.List.{append-nil, length-replicate}
use Rattle.pli_meaning.specs.InputLines.{Input, Mark, LineEndMark, characters, place_behind}
use Rattle.pli_meaning.specs.Texts.{fitted}
use Rattle.pli_edit.specs.Feeding.{is_broken}
use Rattle.pli_edit.specs.Fields.{TakesText}
use Rattle.pli_edit.specs.KnownMarks.{Marked, known_from, marks_left, wants_characters}
use Rattle.pli_edit.specs.Streams.{Fails, Held, Moves, Reaches, Tells, begun, has_failed, without_lines}
use Rattle.pli_edit.specs.declared.fault.EditFault.{EditFault}
use Rattle.pli_edit.specs.declared.fault.EditFault.TheVariants as E
use Rattle.pli_edit.proofs.Moving.{breaks_then, goes_then}
use Rattle.pli_edit.proofs.Ways.{behind_line}

lines_wanted : (n width : ℕ) (ms : List Mark) → wants_characters (suc width) ms ≡ true →
    wants_characters (suc width) (replicate n LineEndMark ++ ms) ≡ true
lines_wanted zero width ms t = t
lines_wanted (suc n) width ms t = lines_wanted n width ms t

lines_passed : (n width : ℕ) (ms : List Mark) →
    characters (suc width) (replicate n LineEndMark ++ ms) ≡ characters (suc width) ms
lines_passed zero width ms = refl
lines_passed (suc n) width ms = lines_passed n width ms

behind_lines_first : (n width : ℕ) (ms : List Mark) →
    place_behind (suc width) 1 (replicate n LineEndMark ++ ms) ≡ place_behind (suc width) 1 ms
behind_lines_first zero width ms = refl
behind_lines_first (suc n) width ms = behind_lines_first n width ms

some_lines : (n : ℕ) → nat_lt 0 (suc n) ≡ true
some_lines n = grind (arith, nat_tests)

behind_lines : (n width column : ℕ) (ms : List Mark) →
    place_behind (suc width) column (replicate n LineEndMark ++ ms)
    ≡ place_behind (suc width) (if nat_lt 0 n then 1 else column) ms
behind_lines zero width column ms = refl
behind_lines (suc n) width column ms =
    behind_line (suc width) column (replicate n LineEndMark ++ ms) (omega arith)
    ∙ (behind_lines_first n width ms
    ∙ sym (ap (λ b. place_behind (suc width) (if b then 1 else column) ms) (some_lines n)))

lines_taken : (w : List Mark → Bool) (a : Marked) → is_broken a.fed.standing ≡ false →
    Moves w (replicate a.lines LineEndMark) a (without_lines a)
lines_taken w a whole = record {
  readings = [];
  reads = refl;
  told = λ all agrees. refl;
  known = λ opened more. ap (λ p. known_from a.lines (p ++ more)) (append-nil a.pending);
  fewer = (let size = length-replicate a.lines LineEndMark in omega (arith, size));
  whole = whole;
}

-- a field behind them is one before them
pub reaches_begun : (width : ℕ) (field : Vec ℕ Global) (h k : Held) → has_failed h ≡ false →
    Reaches (wants_characters width) (λ i j. TakesText width i true (Ok field) j) (begun width h) k →
    Reaches (wants_characters width) (λ i j. TakesText width i true (Ok field) j) h k
reaches_begun zero field h k whole r = r
reaches_begun (suc n) field h k whole r =
    let m = begun (suc n) h in (
      goes_then (wants_characters (suc n)) (wants_characters (suc n)) (replicate h.marked.lines LineEndMark)
          (λ old new. TakesText (suc n) (record { marks = old; column = m.column }) true (Ok field)
          (record { marks = new; column = k.column }))
          (λ old new. TakesText (suc n) (record { marks = old; column = h.column }) true (Ok field)
          (record { marks = new; column = k.column }))
          h.marked m.marked k.marked (lines_taken (wants_characters (suc n)) h.marked whole) r.0
          (λ opened ms t. lines_wanted h.marked.lines n ms t)
          (λ all _ _ told. (
            told.0 ∙ sym (ap (fitted (suc n)) (lines_passed h.marked.lines n (marks_left m.marked all))),
            told.1 ∙ sym (behind_lines h.marked.lines n h.column (marks_left m.marked all)),
          )),
      r.1,
    )

pub fails_begun : (width : ℕ) (h k : Held) → has_failed h ≡ false → Fails (wants_characters width) (begun width h) k →
    Fails (wants_characters width) h k
fails_begun zero h k whole r = r
fails_begun (suc n) h k whole r =
    breaks_then (wants_characters (suc n)) (wants_characters (suc n)) (replicate h.marked.lines LineEndMark) h.marked
    (without_lines h.marked) k.marked (lines_taken (wants_characters (suc n)) h.marked whole) r
    (λ opened ms t. lines_wanted h.marked.lines n ms t)

-- the same of a call behind that
pub tells_begun : (width : ℕ) (result : Result (Vec ℕ Global) EditFault) (h m k : Held) → has_failed h ≡ false →
    m ≡ begun width h →
    MatchResult result
    (λ field. Reaches (wants_characters width) (λ i j. TakesText width i true (Ok field) j) m k)
    (λ e. (e ≡ E.Read) × Fails (wants_characters width) m k) →
    Tells (wants_characters width) (λ i j. TakesText width i true result j) result h k
tells_begun width (Ok field) h m k whole same r =
    reaches_begun width field h k whole
    (subst (λ m. Reaches (wants_characters width) (λ i j. TakesText width i true (Ok field) j) m k) same r)
tells_begun width (Err e) h m k whole same r =
    subst (λ f. Tells {A = Vec ℕ Global} (wants_characters width) (λ i j. TakesText width i true (Err f) j) (Err f) h k)
    (sym r.0)
    (fails_begun width h k whole (subst (λ m. Fails (wants_characters width) m k) same r.1))
