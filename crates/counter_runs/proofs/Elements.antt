-- An element of an array that counts.
use Rattle.std.proofs.Common.{ℕ, List, refl}
use Rattle.pli_typing.specs.Signatures.{Bounds}
use Rattle.pli_typing.specs.TypedTree as Y
use Rattle.run_steps.specs.Reach.{Closed}
use Rattle.run_steps.proofs.Reach.{reach_then}
use Rattle.block_runs.proofs.PointGrounds.{point_frame}
use Rattle.pli_meaning.specs.Control.{Label}
use Rattle.program_runs.specs.Statements.{Block, IsBegun}
use Rattle.program_runs.proofs.JumpsOut.{jumps_later}
use Rattle.expression_runs.specs.Values.{Setting}
use Rattle.expression_runs.specs.Variables.{Spot}
use Rattle.expression_runs.proofs.Words.{known_word}
use Rattle.element_runs.specs.Arrays.{IsArray, element}
use Rattle.element_runs.specs.Subscripts.{IsSubscript, SubscriptComes}
use Rattle.element_runs.proofs.Assignments.{puts_does}
use Rattle.element_runs.proofs.Elements.{element_does}
use Rattle.counter_runs.specs.Counters.{IsCounter, Puts, put_aims}

puts_closed :
    (k : Block) (labels : List Label) (acts index wanted : ℕ) → Closed k.call.code (put_aims k labels acts index wanted)
puts_closed k labels acts index wanted =
    record {
      done = λ r x s o. record {
        point = o.point;
        numbers = o.numbers;
        among = o.among;
        since = o.since;
        state = o.state;
        reach = reach_then r o.reach;
      };
      jumped = λ r height label s o. jumps_later r o;
      returned = λ r x s o. absurd o;
    }

element_puts :
    (k : Setting) (x : Spot) (b : Bounds) (s : Y.Number) (need : ℕ) → IsBegun k.block → IsArray k.block x b →
    SubscriptComes k → IsSubscript k 1 need s → Puts k need (element x s)
element_puts k x b s need begun is outside subscript p numbers c index f z wide o line registers l paid there =
    let h = point_frame o.stands o.image in
    puts_does k x b is (put_aims k.block k.labels p.state.world.acts _ _) z wide need s outside begun subscript
    (puts_closed k.block k.labels p.state.world.acts _ _) p numbers 0 c index f
    (refl, λ c' f' v' height label s' j. j) h o
    line registers l paid (λ b'. known_word k.block h (there b'))
    (λ q after c' f' v' among since r. record {
      point = q;
      numbers = after;
      among = among;
      since = since;
      state = refl;
      reach = r;
    })

-- it is read and assigned if its subscript does what it means
pub element_counts :
    (k : Setting) (x : Spot) (b : Bounds) (s : Y.Number) (need : ℕ) → IsBegun k.block → IsArray k.block x b →
    SubscriptComes k → IsSubscript k 0 need s → IsSubscript k 1 need s → IsCounter k need (element x s)
element_counts k x b s need begun is outside read put =
    record {
      read = element_does k x b s need begun is outside read;
      put = element_puts k x b s need begun is outside put;
    }
