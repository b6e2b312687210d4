-- Where an assignment begins.
use Rattle.std.proofs.Common.{◌≡◌, ℕ, List, Option, Some, Ok, Err, refl, sym, ap, ◌∙◌}
use Rattle.pli_language.specs.declared.token.Symbol.TheVariants as S
use Rattle.pli_language.specs.declared.token.Kind.{Kind}
use Rattle.pli_language.specs.declared.token.Kind.TheVariants as K
use Rattle.pli_language.specs.Spells.{next_kind, BeginsAssignment}
use Rattle.pli_language.specs.Tree as T
use Rattle.pli_phrase.specs.Cursor.{Cursor, Stuck, Ended, LeavesOut, Read}
use Rattle.pli_phrase.specs.declared.expression.Beginning.TheVariants.{Begins, Differs, Unknown}
use Rattle.pli_phrase.specs.Reading.{reference_from, begun, begun_by, assignment_begins}
use Rattle.pli_phrase.proofs.Expressions.{reference_complete, reference_sound}

pub begins_complete : (s : List ℕ) (c : Cursor) → BeginsAssignment s c.tokens → assignment_begins s c ≡ Begins
unfolding assignment_begins
begins_complete s c b = ap begun (reference_complete b.spelled c.marks) ∙ ap begun_by b.equal

by_equal : (k : Option Kind) → begun_by k ≡ Begins → k ≡ Some (K.Symbol S.Equal)
by_equal (Some (K.Symbol S.Equal)) e = refl
by_equal _ e = absurd (cc e)

begun_sound : (s : List ℕ) (c : Cursor) (r : Read T.Reference) → reference_from s c ≡ r → begun r ≡ Begins → BeginsAssignment s c.tokens
begun_sound s c (Ok x) h e =
    record { reference = x.0; behind = x.1.tokens; spelled = (reference_sound s c x h).spelled; equal = by_equal (next_kind x.1.tokens) e }
begun_sound s c (Err Stuck) h e = absurd (cc e)
begun_sound s c (Err Ended) h e = absurd (cc e)
begun_sound s c (Err (LeavesOut at)) h e = absurd (cc e)

pub begins_sound : (s : List ℕ) (c : Cursor) → assignment_begins s c ≡ Begins → BeginsAssignment s c.tokens
unfolding assignment_begins
begins_sound s c e = begun_sound s c (reference_from s c) refl e

pub differs_sound : (s : List ℕ) (c : Cursor) → assignment_begins s c ≡ Differs → ¬ BeginsAssignment s c.tokens
differs_sound s c e b = let k : Differs ≡ Begins = sym e ∙ begins_complete s c b in cc k

pub unknown_sound : (s : List ℕ) (c : Cursor) → assignment_begins s c ≡ Unknown → ¬ BeginsAssignment s c.tokens
unknown_sound s c e b = let k : Unknown ≡ Begins = sym e ∙ begins_complete s c b in cc k
