-- Calls behind calls: marks that are taken one behind another, and the reads that are made on the way.
use Rattle.std.proofs.Common.{◌≡◌, ℕ, Bool, true, false, List, [], ◌++◌, refl}
use Rattle.std.proofs.Common.{sym, ap, subst, ◌∙◌, append_assoc, arith, length-append}
use Rattle.std.proofs.lemmas.List.{append-nil}
use Rattle.pli_meaning.specs.InputLines.{Mark}
use Rattle.pli_edit.specs.Feeding.{Reading, Reads, gained, Agrees, is_broken}
use Rattle.pli_edit.specs.KnownMarks.{Marked, known_from, marks_left}
use Rattle.pli_edit.specs.Streams.{Goes, Moves, Breaks}
use Rattle.pli_edit.specs.declared.feed.Standing.TheVariants as S
use Rattle.pli_edit.specs.ReadChains.{agree_back, reads_append, reads_open, gained_append, reads_shift, reads_weaken}

-- the reads of both
both_reads :
    (v w : List Mark → Bool) (front : List Mark) (a b c : Marked) (rs ss : List Reading) →
    Reads (λ p. w (known_from a.lines p)) a.pending rs a.fed b.fed →
    (b.fed.standing ≡ S.Open → (more : List ℕ) →
    known_from a.lines ((a.pending ++ gained rs) ++ more) ≡ front ++ known_from b.lines (b.pending ++ more)) →
    Reads (λ p. v (known_from b.lines p)) b.pending ss b.fed c.fed →
    (b.fed.standing ≡ S.Open → (ms : List Mark) → v ms ≡ true → w (front ++ ms) ≡ true) →
    Reads (λ p. w (known_from a.lines p)) a.pending (rs ++ ss) a.fed c.fed
both_reads v w front a b c rs ss first known second wanted =
    reads_append (λ p. w (known_from a.lines p)) a.pending rs ss a.fed b.fed c.fed first
    (reads_shift (λ p. v (known_from b.lines p)) (λ p. w (known_from a.lines p)) b.pending (a.pending ++ gained rs) ss
    b.fed c.fed
    (λ opened more t. subst (λ ms. w ms ≡ true) (sym (known opened more))
    (wanted opened (known_from b.lines (b.pending ++ more)) t)) second)

-- no call yet
pub moves_none : (w : List Mark → Bool) (a : Marked) → is_broken a.fed.standing ≡ false → Moves w [] a a
moves_none w a whole = record {
  readings = [];
  reads = refl;
  told = λ all agrees. refl;
  known = λ opened more. ap (λ p. known_from a.lines (p ++ more)) (append-nil a.pending);
  fewer = omega arith;
  whole = whole;
}

pub moves_then :
    (v w : List Mark → Bool) (f g : List Mark) (a b c : Marked) → Moves w f a b → Moves v g b c →
    (b.fed.standing ≡ S.Open → (ms : List Mark) → v ms ≡ true → w (f ++ ms) ≡ true) → Moves w (f ++ g) a c
moves_then v w f g a b c h k wanted = record {
  readings = h.readings ++ k.readings;
  reads = both_reads v w f a b c h.readings k.readings h.reads h.known k.reads wanted;
  told = λ all agrees.
      let before = agree_back (λ p. v (known_from b.lines p)) b.pending k.readings b.fed c.fed all k.reads agrees in
      h.told all before.0 ∙ (ap (λ ms. f ++ ms) (k.told all agrees) ∙ sym (append_assoc f g (marks_left c all)));
  known = λ opened more.
      ap (λ p. known_from a.lines p)
      (ap (λ t. (a.pending ++ t) ++ more) (gained_append h.readings k.readings)
      ∙ (ap (λ t. t ++ more) (sym (append_assoc a.pending (gained h.readings) (gained k.readings)))
      ∙ append_assoc (a.pending ++ gained h.readings) (gained k.readings) more))
      ∙ (h.known (reads_open (λ p. v (known_from b.lines p)) b.pending k.readings b.fed c.fed k.reads opened)
      (gained k.readings ++ more)
      ∙ (ap (λ p. f ++ known_from b.lines p) (sym (append_assoc b.pending (gained k.readings) more))
      ∙ (ap (λ ms. f ++ ms) (k.known opened more) ∙ sym (append_assoc f g (known_from c.lines (c.pending ++ more))))));
  fewer = (let one = h.fewer in let two = k.fewer in let sum = length-append f g in omega (arith, one, two, sum));
  whole = k.whole;
}

pub goes_then :
    (v w : List Mark → Bool) (f : List Mark) (claim goal : List Mark → List Mark → Type 0) (a b c : Marked) →
    Moves w f a b → Goes v claim b c →
    (b.fed.standing ≡ S.Open → (ms : List Mark) → v ms ≡ true → w (f ++ ms) ≡ true) →
    ((all : List ℕ) → Agrees b.fed all → Agrees c.fed all → claim (marks_left b all) (marks_left c all) →
    goal (f ++ marks_left b all) (marks_left c all)) → Goes w goal a c
goes_then v w f claim goal a b c h k wanted so = record {
  readings = h.readings ++ k.readings;
  reads = both_reads v w f a b c h.readings k.readings h.reads h.known k.reads wanted;
  told = λ all agrees.
      let before = agree_back (λ p. v (known_from b.lines p)) b.pending k.readings b.fed c.fed all k.reads agrees in
      subst (λ ms. goal ms (marks_left c all)) (sym (h.told all before.0)) (so all before.0 agrees (k.told all agrees));
}

-- a call that ends where these marks are taken
pub goes_here :
    (w : List Mark → Bool) (f : List Mark) (goal : List Mark → List Mark → Type 0) (a b : Marked) → Moves w f a b →
    ((all : List ℕ) → Agrees b.fed all → goal (f ++ marks_left b all) (marks_left b all)) → Goes w goal a b
goes_here w f goal a b h so = record {
  readings = h.readings;
  reads = h.reads;
  told = λ all agrees. subst (λ ms. goal ms (marks_left b all)) (sym (h.told all agrees)) (so all agrees);
}

pub breaks_then :
    (v w : List Mark → Bool) (f : List Mark) (a b c : Marked) → Moves w f a b → Breaks v b c →
    (b.fed.standing ≡ S.Open → (ms : List Mark) → v ms ≡ true → w (f ++ ms) ≡ true) → Breaks w a c
breaks_then v w f a b c h k wanted = (
  goes_then v w f (λ old new. Unit {0}) (λ old new. Unit {0}) a b c h k.0 wanted (λ all x y z. tt),
  k.1,
  (let one = h.fewer in let two = k.2 in omega (arith, one, two)),
)

-- the same, where more is said to be wanted
pub moves_weaken : (v w : List Mark → Bool) (f : List Mark) (a b : Marked) → Moves v f a b →
    ((ms : List Mark) → v ms ≡ true → w ms ≡ true) → Moves w f a b
moves_weaken v w f a b h wanted = record {
  readings = h.readings;
  reads = reads_weaken (λ p. v (known_from a.lines p)) (λ p. w (known_from a.lines p)) a.pending h.readings a.fed
      b.fed (λ q t. wanted (known_from a.lines q) t) h.reads;
  told = h.told;
  known = h.known;
  fewer = h.fewer;
  whole = h.whole;
}

pub breaks_weaken : (v w : List Mark → Bool) (a b : Marked) → Breaks v a b →
    ((ms : List Mark) → v ms ≡ true → w ms ≡ true) → Breaks w a b
breaks_weaken v w a b h wanted = (
  record {
    readings = h.0.readings;
    reads = reads_weaken (λ p. v (known_from a.lines p)) (λ p. w (known_from a.lines p)) a.pending h.0.readings a.fed
        b.fed (λ q t. wanted (known_from a.lines q) t) h.0.reads;
    told = h.0.told;
  },
  h.1,
  h.2,
)
