-- Looking at the first mark behind the lines that were looked over.
use Rattle.std.proofs.Common.{◌≡◌, ◌≤◌, ◌<◌, ℕ, zero, suc, ◌+◌, ◌-◌, ◌*◌, Bool, true, false, List, [], ◌∷◌, ◌++◌}
use Rattle.std.proofs.Common.{length, drop, take, replicate, Option, Some, None, is_some, refl, sym, ap, subst, ◌∙◌}
use Rattle.std.proofs.Common.{append_assoc, arith, length-append, length-drop, if◌then◌else◌}
use Rattle.std.proofs.lemmas.List.{take-append-le}
use Rattle.std.proofs.lemmas.List.{append-nil, drop-append-le}
use Rattle.pli_meaning.specs.InputLines.{Mark, CharacterMark, LineEndMark, marks_of, characters, has_character}
use Rattle.pli_meaning.specs.InputLines.{place_behind}
use Rattle.pli_edit.specs.Feeding.{Fed, Reading, Gave, Broke, NotMade, MayCome, Reads, Agrees, behind}
use Rattle.pli_edit.specs.Feeding.{bytes_of, gained, is_broken, is_open, to_come}
use Rattle.pli_edit.specs.KnownMarks.{Marked, known, known_from, marks_left, most_left, wants_mark, wants_characters}
use Rattle.pli_edit.specs.Marks.{begins_line, begins_with_character, has_line_end, mark_of, IsFirstMark, IsInLine}
use Rattle.pli_edit.specs.Marks.{IsSizedMark}
use Rattle.pli_edit.specs.Streams.{behind_mark, over_line, Breaks, IsFront, IsKnownMark, LooksAt}
use Rattle.pli_edit.specs.Streams.{LooksInVain, Moves, Takes, TakesInLine, Waits}
use Rattle.pli_edit.specs.ReadChains.{agree_back, agrees_now, gained_append, nothing_to_come, reads_append}
use Rattle.pli_edit.specs.ReadChains.{reads_weaken}
use Rattle.pli_edit.proofs.Lines.{behind_line, line_so}
use Rattle.pli_edit.proofs.Moving.{breaks_then, moves_none, moves_then}
use Rattle.pli_edit.specs.declared.feed.Standing.{Standing}
use Rattle.pli_edit.specs.declared.feed.Standing.TheVariants as S
use Rattle.pli_edit.specs.declared.mark.Mark.{Mark as TakenMark}
use Rattle.pli_edit.specs.declared.mark.Mark.TheVariants as M

-- ---- reads

-- behind a read
abbrev pub read_on : Reading → Marked → Marked
read_on r b = record { fed = behind r b.fed; lines = b.lines; is_begun = b.is_begun; pending = b.pending ++ bytes_of r }

pub read_fewer : (r : Reading) (b : Marked) → MayCome r b.fed → most_left (read_on r b) ≤ most_left b
read_fewer (Gave bytes) b h = let all = length-append b.pending bytes in let some = h.0 in let few = h.1 in
    omega (arith, all, some, few)
read_fewer Broke b h = let all = length-append b.pending [] in omega (arith, all, h)
read_fewer NotMade b h = let all = length-append b.pending [] in omega (arith, all)

-- a read that doesn't break the stream is one of those that are left
pub read_left : (r : Reading) (f : Fed) → MayCome r f → is_broken (behind r f).standing ≡ false →
    (behind r f).left < f.left
read_left (Gave bytes) f h e = let some = h.0 in omega (arith, some)
read_left Broke f h e = cc
read_left NotMade f h e = cc

pub opened : (s : Standing) → is_open s ≡ true → s ≡ S.Open
opened S.Open e = refl
opened S.Ended e = cc
opened S.Broken e = cc
opened S.Spent e = cc

-- a stream that isn't broken and isn't open has ended
pub has_ended : (s : Standing) → is_broken s ≡ false → is_open s ≡ false → s ≡ S.Ended
has_ended S.Open e h = cc
has_ended S.Ended e h = refl
has_ended S.Broken e h = cc
has_ended S.Spent e h = cc

pub waits_none : (a : Marked) → Waits a a
waits_none a = record {
  readings = [];
  reads = refl;
  lines = refl;
  begun = refl;
  pending =
      sym (append-nil a.pending);
  fewer = omega arith;
}

pub waits_read : (r : Reading) (a b : Marked) → Waits a b → known b.pending ≡ [] → b.fed.standing ≡ S.Open →
    MayCome r b.fed → Waits a (read_on r b)
waits_read r a b w none opened may = record {
  readings = w.readings ++ r ∷ [];
  reads =
      reads_append (λ p. wants_mark (known p)) a.pending w.readings (r ∷ []) a.fed b.fed (behind r b.fed) w.reads
      (subst (λ p. Reads (λ p. wants_mark (known p)) p (r ∷ []) b.fed (behind r b.fed)) w.pending
      (ap wants_mark none, opened, may, refl));
  lines = w.lines;
  begun = w.begun;
  pending =
      ap (λ p. p ++ bytes_of r) w.pending
      ∙ (append_assoc a.pending (gained w.readings) (bytes_of r)
      ∙ ap (λ t. a.pending ++ t)
      (ap (λ t. gained w.readings ++ t) (sym (append-nil (bytes_of r))) ∙ sym (gained_append w.readings (r ∷ []))));
  fewer = (let one = w.fewer in let two = read_fewer r b may in omega (arith, one, two));
}

-- ---- the first mark

pub front_known : (found : Option (TakenMark × ℕ)) (b : Marked) → is_some found ≡ true → IsKnownMark b.pending found →
    IsFront found b
front_known None b some h = cc
front_known (Some (m, size)) b some h = (
  h.0,
  λ all agrees. h.3 b.is_begun (to_come b.fed all),
  λ _ more. h.2 more,
  λ none. absurd (let more = h.1 in omega (arith, more, none)),
)

pub front_ended : (found : Option (TakenMark × ℕ)) (b : Marked) → b.fed.standing ≡ S.Ended →
    IsFirstMark b.is_begun b.pending found → IsSizedMark b.is_begun found → IsFront found b
front_ended None b ended h k = (
  ended,
  λ all agrees. ap (λ t. marks_of b.is_begun (b.pending ++ t)) (agrees.1 ended)
      ∙ (ap (marks_of b.is_begun) (append-nil b.pending) ∙ h),
)
front_ended (Some (m, size)) b ended h k = (
  h.0,
  λ all agrees.
      ap (λ t. marks_of b.is_begun (b.pending ++ t)) (agrees.1 ended)
      ∙ (ap (marks_of b.is_begun) (append-nil b.pending)
      ∙ (h.1
      ∙ (ap (λ t. mark_of m ∷ marks_of (begins_line m) t) (sym (append-nil (drop size b.pending)))
      ∙ ap (λ t. mark_of m ∷ marks_of (begins_line m) (drop size b.pending ++ t)) (sym (agrees.1 ended))))),
  λ opened more. absurd (open_or_ended b.fed.standing opened ended),
  k,
)
  where
    open_or_ended : (s : Standing) → s ≡ S.Open → s ≡ S.Ended → ⊥
    open_or_ended s h k = let no_way : S.Open ≡ S.Ended = sym h ∙ k in cc

-- ---- what was waited for

-- more is wanted behind lines that were looked over
lines_known : (w : List Mark → Bool) (n : ℕ) → w (replicate n LineEndMark ++ []) ≡ true → (p : List ℕ) →
    wants_mark (known p) ≡ true → w (known_from n p) ≡ true
lines_known w n h p e = ap (λ ms. w (replicate n LineEndMark ++ ms)) (no_mark (known p) e) ∙ h
  where
    no_mark : (ms : List Mark) → wants_mark ms ≡ true → ms ≡ []
    no_mark [] e = refl
    no_mark (m ∷ ms) e = cc

waited : (w : List Mark → Bool) (a b : Marked) (h : Waits a b) → w (replicate a.lines LineEndMark ++ []) ≡ true →
    Reads (λ p. w (known_from a.lines p)) a.pending h.readings a.fed b.fed
waited w a b h wanted = reads_weaken (λ p. wants_mark (known p)) (λ p. w (known_from a.lines p)) a.pending h.readings
    a.fed b.fed (lines_known w a.lines wanted) h.reads

pub wait_moves : (w : List Mark → Bool) (a b : Marked) → Waits a b → w (replicate a.lines LineEndMark ++ []) ≡ true →
    is_broken b.fed.standing ≡ false → Moves w [] a b
wait_moves w a b h wanted whole = record {
  readings = h.readings;
  reads = waited w a b h wanted;
  told = λ all agrees.
      let before = agree_back (λ p. wants_mark (known p)) a.pending h.readings a.fed b.fed all h.reads agrees in
      let bytes : a.pending ++ to_come a.fed all ≡ b.pending ++ to_come b.fed all =
      ap (λ t. a.pending ++ t) before.1
      ∙ (sym (append_assoc a.pending (gained h.readings) (to_come b.fed all))
      ∙ ap (λ p. p ++ to_come b.fed all) (sym h.pending))
      in
      ap (λ s. replicate a.lines LineEndMark ++ marks_of a.is_begun s) bytes
      ∙ (ap (λ n. replicate n LineEndMark ++ marks_of a.is_begun (b.pending ++ to_come b.fed all)) (sym h.lines)
      ∙ ap (λ t. replicate b.lines LineEndMark ++ marks_of t (b.pending ++ to_come b.fed all)) (sym h.begun));
  known = λ opened more.
      ap (λ p. known_from a.lines (p ++ more)) (sym h.pending)
      ∙ ap (λ n. known_from n (b.pending ++ more)) (sym h.lines);
  fewer = (let some = h.fewer in omega (arith, some));
  whole = whole;
}

pub wait_breaks : (w : List Mark → Bool) (a b : Marked) → LooksInVain a b →
    w (replicate a.lines LineEndMark ++ []) ≡ true → Breaks w a b
wait_breaks w a b h wanted =
    (record { readings = h.0.readings; reads = waited w a b h.0 wanted; told = λ all agrees. tt }, h.1, h.0.fewer)

-- ---- marks that were looked at

pub mark_fewer : (m : TakenMark) (size : ℕ) (b : Marked) → size ≤ length b.pending →
    (size ≡ 0 → (b.is_begun ≡ true) × (begins_line m ≡ false)) → suc (most_left (behind_mark m size b)) ≤ most_left b
mark_fewer m size b there none =
    let count = length-drop size b.pending in
    sizes m size (length b.pending) (length (drop size b.pending)) b.is_begun (4096 * b.fed.left) b.lines there none
    count
  where
    sizes : (m : TakenMark) (size n k : ℕ) (t : Bool) (left lines : ℕ) → size ≤ n →
        (size ≡ 0 → (t ≡ true) × (begins_line m ≡ false)) → k ≡ n - size →
        suc (3 * (left + k) + (lines + (if begins_line m then 2 else 0))) ≤ 3 *
        (left + n) + (lines + (if t then 2 else 0))
    sizes (M.Character x) zero n k t left lines there none e = let no_way = (none refl).1 in absurd cc
    sizes M.LineEnd zero n k true left lines there none e = omega (arith, there, e)
    sizes M.LineEnd zero n k false left lines there none e = let no_way = (none refl).0 in absurd cc
    sizes (M.Character x) (suc size) n k true left lines there none e = omega (arith, there, e)
    sizes (M.Character x) (suc size) n k false left lines there none e = omega (arith, there, e)
    sizes M.LineEnd (suc size) n k true left lines there none e = omega (arith, there, e)
    sizes M.LineEnd (suc size) n k false left lines there none e = omega (arith, there, e)

-- and still fewer where the end of a line is looked over
pub line_fewer : (size : ℕ) (b : Marked) → size ≤ length b.pending → (size ≡ 0 → b.is_begun ≡ true) →
    suc (most_left (over_line size b)) ≤ most_left b
line_fewer size b there none =
    sizes size (length b.pending) (length (drop size b.pending)) b.is_begun (4096 * b.fed.left) b.lines there none
    (length-drop size b.pending)
  where
    sizes : (size n k : ℕ) (t : Bool) (left lines : ℕ) → size ≤ n → (size ≡ 0 → t ≡ true) → k ≡ n - size →
        suc (3 * (left + k) + ((lines + 1) + 0)) ≤ 3 * (left + n) + (lines + (if t then 2 else 0))
    sizes zero n k true left lines there none e = omega (arith, there, e)
    sizes zero n k false left lines there none e = let no_way = none refl in absurd cc
    sizes (suc size) n k true left lines there none e = omega (arith, there, e)
    sizes (suc size) n k false left lines there none e = omega (arith, there, e)

-- it is taken, with no line before it
pub front_taken : (m : TakenMark) (size : ℕ) (b : Marked) → b.lines ≡ 0 → IsFront (Some (m, size)) b →
    is_broken b.fed.standing ≡ false → Moves wants_mark (mark_of m ∷ []) b (behind_mark m size b)
front_taken m size b none h whole = record {
  readings = [];
  reads = refl;
  told = λ all agrees. ap (λ n. replicate n LineEndMark ++ marks_of b.is_begun (b.pending ++ to_come b.fed all)) none
      ∙ (h.1 all agrees ∙ ap (λ n.
      mark_of m ∷ (replicate n LineEndMark ++ marks_of (begins_line m) (drop size b.pending ++ to_come b.fed all)))
      (sym none));
  known = λ opened more.
      ap (λ p. known_from b.lines (p ++ more)) (append-nil b.pending)
      ∙ (ap (λ n. known_from n (b.pending ++ more)) none
      ∙ (h.2 opened more ∙ ap (λ n. mark_of m ∷ known_from n (drop size b.pending ++ more)) (sym none)));
  fewer = (let some = mark_fewer m size b h.0 h.3 in omega (arith, some));
  whole = whole;
}

-- a line that was looked over is taken
pub line_taken : (b : Marked) → 0 < b.lines → is_broken b.fed.standing ≡ false →
    Moves wants_mark (LineEndMark ∷ []) b
    (record { fed = b.fed; lines = b.lines - 1; is_begun = b.is_begun; pending = b.pending })
line_taken b some whole = record {
  readings = [];
  reads = refl;
  told = λ all agrees. ap (λ n. replicate n LineEndMark ++ marks_of b.is_begun (b.pending ++ to_come b.fed all))
      more_lines;
  known = λ opened more. ap (λ p. known_from b.lines (p ++ more)) (append-nil b.pending)
      ∙ ap (λ n. known_from n (b.pending ++ more)) more_lines;
  fewer = omega (arith, some);
  whole = whole;
}
  where
    more_lines : b.lines ≡ suc (b.lines - 1)
    more_lines = omega (arith, some)

one_more : (n : ℕ) (ms : List Mark) → replicate (n + 1) LineEndMark ++ ms ≡ replicate n LineEndMark ++ LineEndMark ∷ ms
one_more zero ms = refl
one_more (suc n) ms =
    let up : suc n + 1 ≡ suc (n + 1) = omega arith in
    ap (λ k. replicate k LineEndMark ++ ms) up ∙ ap (λ l. LineEndMark ∷ l) (one_more n ms)

-- the end of a line is looked over
pub front_over : (w : List Mark → Bool) (size : ℕ) (b : Marked) → IsFront (Some (M.LineEnd, size)) b →
    is_broken b.fed.standing ≡ false → Moves w [] b (over_line size b)
front_over w size b h whole = record {
  readings = [];
  reads = refl;
  told = λ all agrees.
      ap (λ ms. replicate b.lines LineEndMark ++ ms) (h.1 all agrees)
      ∙ sym (one_more b.lines (marks_of false (drop size b.pending ++ to_come b.fed all)));
  known = λ opened more.
      ap (λ p. known_from b.lines (p ++ more)) (append-nil b.pending)
      ∙ (ap (λ ms. replicate b.lines LineEndMark ++ ms) (h.2 opened more)
      ∙ sym (one_more b.lines (known (drop size b.pending ++ more))));
  fewer = (let some = mark_fewer M.LineEnd size b h.0 h.3 in omega (arith, some));
  whole = whole;
}

-- ---- whether a character is left

pub lines_want : (n : ℕ) → wants_characters 1 (replicate n LineEndMark ++ []) ≡ true
lines_want zero = refl
lines_want (suc n) = lines_want n

pub no_character : (n : ℕ) (ms : List Mark) → ms ≡ [] → has_character (replicate n LineEndMark ++ ms) ≡ false
no_character zero ms e = ap has_character e
no_character (suc n) ms e = no_character n ms e

pub some_character : (n b : ℕ) (ms rest : List Mark) → ms ≡ CharacterMark b ∷ rest →
    has_character (replicate n LineEndMark ++ ms) ≡ true
some_character zero b ms rest e = ap has_character e
some_character (suc n) b ms rest e = some_character n b ms rest e

pub none_known : (found : Option (TakenMark × ℕ)) (bytes : List ℕ) → is_some found ≡ false → IsKnownMark bytes found →
    known bytes ≡ []
none_known None bytes e h = h.0
none_known (Some found) bytes e h = cc

-- ---- a call

no_lines : (a : Marked) → a.lines ≡ 0 → wants_mark (replicate a.lines LineEndMark ++ []) ≡ true
no_lines a none = ap (λ n. wants_mark (replicate n LineEndMark ++ [])) none

pub taken_none : (a b : Marked) → a.lines ≡ 0 → LooksAt None a b → Takes None a b
taken_none a b none h = (
  wait_moves wants_mark a b h.0 (no_lines a none) h.2,
  (
    h.1.0,
    λ all agrees. ap (λ n. replicate n LineEndMark ++ marks_of b.is_begun (b.pending ++ to_come b.fed all))
        (h.0.lines ∙ none) ∙ h.1.1 all agrees,
  ),
)

pub taken_some : (m : TakenMark) (size : ℕ) (a b : Marked) → a.lines ≡ 0 → LooksAt (Some (m, size)) a b →
    Takes (Some m) a (behind_mark m size b)
taken_some m size a b none h =
    moves_then wants_mark wants_mark [] (mark_of m ∷ []) a b (behind_mark m size b)
    (wait_moves wants_mark a b h.0 (no_lines a none) h.2)
    (front_taken m size b (h.0.lines ∙ none) h.1 h.2) (λ _ ms t. t)

pub taken_in_vain : (a b : Marked) → a.lines ≡ 0 → LooksInVain a b → Breaks wants_mark a b
taken_in_vain a b none h = wait_breaks wants_mark a b h (no_lines a none)

pub in_line_end : (a : Marked) → 0 < a.lines → is_broken a.fed.standing ≡ false → TakesInLine None a a
in_line_end a some whole = (
  moves_none wants_mark a whole,
  λ all _. not_there a.lines (marks_of a.is_begun (a.pending ++ to_come a.fed all)) some,
)
  where
    not_there : (n : ℕ) (ms : List Mark) → 0 < n → begins_with_character (replicate n LineEndMark ++ ms) ≡ false
    not_there zero ms h = absurd (omega arith)
    not_there (suc n) ms h = refl

pub in_line_none : (a b : Marked) → a.lines ≡ 0 → LooksAt None a b → TakesInLine None a b
in_line_none a b none h = let taken = taken_none a b none h in
    (taken.0, λ all agrees. ap begins_with_character (taken.1.1 all agrees))

pub in_line_feed : (size : ℕ) (a b : Marked) → a.lines ≡ 0 → LooksAt (Some (M.LineEnd, size)) a b → TakesInLine None a b
in_line_feed size a b none h = (
  wait_moves wants_mark a b h.0 (no_lines a none) h.2,
  λ all agrees.
      ap begins_with_character
      (ap (λ n. replicate n LineEndMark ++ marks_of b.is_begun (b.pending ++ to_come b.fed all)) (h.0.lines ∙ none)
      ∙ h.1.1 all agrees),
)

pub in_line_some : (x size : ℕ) (a b : Marked) → a.lines ≡ 0 → LooksAt (Some (M.Character x, size)) a b →
    TakesInLine (Some x) a (behind_mark (M.Character x) size b)
in_line_some x size a b none h = taken_some (M.Character x) size a b none h

abbrev pub IsLeft : Bool → Marked → Marked → Type 0
IsLeft is_left a b = Moves (wants_characters 1) [] a b ×
    ((all : List ℕ) → Agrees b.fed all → has_character (marks_left b all) ≡ is_left)

pub left_none : (a b : Marked) → LooksAt None a b → IsLeft false a b
left_none a b h = (
  wait_moves (wants_characters 1) a b h.0 (lines_want a.lines) h.2,
  λ all agrees. no_character b.lines (marks_of b.is_begun (b.pending ++ to_come b.fed all)) (h.1.1 all agrees),
)

pub left_some : (x size : ℕ) (a b : Marked) → LooksAt (Some (M.Character x, size)) a b → IsLeft true a b
left_some x size a b h = (
  wait_moves (wants_characters 1) a b h.0 (lines_want a.lines) h.2,
  λ all agrees. some_character b.lines x (marks_of b.is_begun (b.pending ++ to_come b.fed all))
      (marks_of true (drop size b.pending ++ to_come b.fed all)) (h.1.1 all agrees),
)

pub left_over : (size : ℕ) (a b : Marked) → LooksAt (Some (M.LineEnd, size)) a b →
    Moves (wants_characters 1) [] a (over_line size b)
left_over size a b h =
    moves_then (wants_characters 1) (wants_characters 1) [] [] a b (over_line size b)
    (wait_moves (wants_characters 1) a b h.0 (lines_want a.lines) h.2)
    (front_over (wants_characters 1) size b h.1 h.2) (λ _ ms t. t)

pub left_vain : (a b : Marked) → LooksInVain a b → Breaks (wants_characters 1) a b
left_vain a b h = wait_breaks (wants_characters 1) a b h (lines_want a.lines)

-- behind empty lines that were looked over
pub left_behind : (is_left : Bool) (a b c : Marked) → Moves (wants_characters 1) [] a b → IsLeft is_left b c →
    IsLeft is_left a c
left_behind is_left a b c h k =
    (moves_then (wants_characters 1) (wants_characters 1) [] [] a b c h k.0 (λ _ ms t. t), k.1)

pub vain_behind : (a b c : Marked) → Moves (wants_characters 1) [] a b → Breaks (wants_characters 1) b c →
    Breaks (wants_characters 1) a c
vain_behind a b c h k = breaks_then (wants_characters 1) (wants_characters 1) [] a b c h k (λ _ ms t. t)

-- ---- characters of a line that were read

pub line_there :
    (n : ℕ) (p : List ℕ) (b : Marked) (all : List ℕ) → b.lines ≡ 0 → p ≡ b.pending → 0 < n → n ≤ length p →
    has_line_end (take n p) ≡ false →
    IsInLine n (marks_left b all) × (take n p ≡ characters n (marks_left b all))
line_there n p b all none same some there e =
    let rest = to_come b.fed all in
    let s = p ++ rest in
    let front : take n s ≡ take n p = take-append-le n p rest there in
    let count = length-append p rest in
    let so = line_so b.is_begun n s some (omega (arith, count, there)) (ap has_line_end front ∙ e) in
    let all_of : marks_of b.is_begun s ≡ marks_left b all =
    ap (λ q. marks_of b.is_begun (q ++ rest)) same
    ∙ ap (λ k. replicate k LineEndMark ++ marks_of b.is_begun (b.pending ++ rest)) (sym none)
    in
    subst (λ ms. IsInLine n ms × (take n p ≡ characters n ms)) all_of (so.0, sym front ∙ so.1)

pub no_line_before : (n : ℕ) (b : Marked) → ((all : List ℕ) → Agrees b.fed all → IsInLine n (marks_left b all)) →
    b.lines ≡ 0
no_line_before n b h = none n b.lines (marks_of b.is_begun (b.pending ++ to_come b.fed (b.fed.history.bytes ++ [])))
    (h (b.fed.history.bytes ++ []) (agrees_now b.fed))
  where
    none : (n k : ℕ) (ms : List Mark) → IsInLine n (replicate k LineEndMark ++ ms) → k ≡ 0
    none n zero ms h = refl
    none zero (suc k) ms h = absurd (let some = h.0 in omega (arith, some))
    none (suc n) (suc k) ms h = let no_way = h.1 in cc

line_of : (n : ℕ) (b : Marked) (all : List ℕ) → b.lines ≡ 0 → IsInLine n (marks_left b all) →
    IsInLine n (marks_of b.is_begun (b.pending ++ to_come b.fed all))
line_of n b all none h = subst
    (λ k. IsInLine n (replicate k LineEndMark ++ marks_of b.is_begun (b.pending ++ to_come b.fed all))) none h

pub pass_there : (n : ℕ) (b : Marked) → ((all : List ℕ) → Agrees b.fed all → IsInLine n (marks_left b all)) →
    n ≤ length b.pending
pass_there n b h =
    let whole = b.fed.history.bytes ++ [] in
    let inside = (behind_line b.is_begun n (b.pending ++ to_come b.fed whole)
    (line_of n b whole (no_line_before n b h) (h whole (agrees_now b.fed)))).0 in
    let same = ap length (ap (λ t. b.pending ++ t) (nothing_to_come b.fed) ∙ append-nil b.pending) in
    omega (arith, inside, same)

-- behind characters of a line
abbrev pub behind_characters : ℕ → Marked → Marked
behind_characters n b = record { fed = b.fed; lines = b.lines; is_begun = true; pending = drop n b.pending }

pub passed_there :
    (n : ℕ) (b : Marked) → ((all : List ℕ) → Agrees b.fed all → IsInLine n (marks_left b all)) →
    (all : List ℕ) (column : ℕ) → Agrees b.fed all →
    record { marks = marks_left (behind_characters n b) all; column = column + n } ≡ place_behind n column
    (marks_left b all)
passed_there n b h all column agrees =
    let none = no_line_before n b h in
    let rest = to_come b.fed all in
    let so = (behind_line b.is_begun n (b.pending ++ rest) (line_of n b all none (h all agrees))).1 column in
    ap (λ k. record {
      marks = replicate k LineEndMark ++ marks_of true (drop n b.pending ++ rest);
      column =
          column + n;
    }) none
    ∙ (ap (λ s. record { marks = marks_of true s; column = column + n })
    (sym (drop-append-le n b.pending rest (pass_there n b h)))
    ∙ (so ∙ ap (λ k. place_behind n column (replicate k LineEndMark ++ marks_of b.is_begun (b.pending ++ rest)))
    (sym none)))

pub pass_fewer : (n : ℕ) (b : Marked) → ((all : List ℕ) → Agrees b.fed all → IsInLine n (marks_left b all)) →
    n + most_left (behind_characters n b) ≤ most_left b
pass_fewer n b h =
    let some = (h (b.fed.history.bytes ++ []) (agrees_now b.fed)).0 in
    let count = length-drop n b.pending in
    let there = pass_there n b h in
    omega (arith, some, count, there)
