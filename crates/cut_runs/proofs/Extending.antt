-- Worlds that go on from one another: behind each act, and from one to the next.
use Rattle.std.proofs.Common.{◌≡◌, ℕ, ◌++◌, List, [], ◌∷◌, Some, Bool, true, false, refl, sym, ap, ◌∙◌, arith}
use Rattle.std.proofs.Common.{append-nil, append_assoc}
use Rattle.std.specs.Prelude.{cond, ◌==◌, nat_le, replicate}
use Rattle.pli_language.specs.declared.condition.Condition.{Condition}
use Rattle.pli_meaning.specs.declared.outcome.End.{End}
use Rattle.pli_meaning.specs.Laws.{IsPrefix, Extends}
use Rattle.pli_meaning.specs.Stream.{blanks, column_of, line_feed}
use Rattle.pli_meaning.specs.Streaming as F
use Rattle.pli_meaning.specs.World.{World, counted, written, raising, ending}

-- ---- fronts of lists

prefix_refl : {X : Type 0} (xs : List X) → IsPrefix xs xs
prefix_refl xs = record { rest = []; joined = sym (append-nil xs) }

pub prefix_append : {X : Type 0} (xs ys : List X) → IsPrefix xs (xs ++ ys)
prefix_append xs ys = record { rest = ys; joined = refl }

prefix_trans : {X : Type 0} {xs ys zs : List X} → IsPrefix xs ys → IsPrefix ys zs → IsPrefix xs zs
prefix_trans {xs = xs} p q =
    record {
      rest = p.rest ++ q.rest;
      joined = q.joined ∙ ap (λ l. l ++ q.rest) p.joined ∙ append_assoc xs p.rest q.rest;
    }

-- ---- acts

pub extends_refl : (w : World) → Extends w w
extends_refl w = record { acts = omega arith; output = prefix_refl w.output; raised = prefix_refl w.raised }

pub counted_on : (w : World) → Extends w (counted w)
counted_on w = record { acts = omega arith; output = prefix_refl w.output; raised = prefix_refl w.raised }

pub raising_on : (c : Condition) (code : ℕ) (w : World) → Extends w (raising c code w)
raising_on c code w =
    record {
      acts = omega arith;
      output = prefix_refl w.output;
      raised = prefix_append w.raised ((c, code) ∷ []);
    }

pub written_on : (item : List ℕ → List ℕ) (w : World) → IsPrefix w.output (item w.output) → Extends w (written item w)
written_on item w longer = record { acts = omega arith; output = longer; raised = prefix_refl w.raised }

finished_by : (t : Bool) (output : List ℕ) → IsPrefix output (cond t output (output ++ line_feed ∷ []))
finished_by true output = prefix_refl output
finished_by false output = prefix_append output (line_feed ∷ [])

pub ending_on : (end : End) (w : World) → Extends w (ending end w)
ending_on end w =
    record {
      acts = omega arith;
      output = finished_by (column_of w.output == 1) w.output;
      raised = prefix_refl w.raised;
    }

-- ---- control items of PUT

longer_by : (t : Bool) (output xs ys : List ℕ) → IsPrefix output (cond t (output ++ xs) (output ++ ys))
longer_by true output xs ys = prefix_append output xs
longer_by false output xs ys = prefix_append output ys

pub control_longer : (c : F.ControlItem) (output : List ℕ) → IsPrefix output (F.control_written c output)
control_longer (F.SpaceItem n) output = prefix_append output (blanks n)
control_longer (F.SkipItem n) output = prefix_append output (replicate n line_feed)
control_longer (F.ColumnItem n) output = longer_by (nat_le (column_of output) n) output _ _

-- ---- one behind the other

pub extends_trans : {u v w : World} → Extends u v → Extends v w → Extends u w
extends_trans p q =
    record {
      acts = let a = p.acts in let b = q.acts in omega (arith, a, b);
      output = prefix_trans p.output q.output;
      raised = prefix_trans p.raised q.raised;
    }

pub same_world : (u v : World) → Some u ≡ Some v → u ≡ v
same_world u v e = cc e
