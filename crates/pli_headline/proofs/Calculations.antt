-- The four operators of numbers.
use Rattle.std.proofs.Common.{◌≡◌, ℕ, ◌+◌, ◌<◌, List, false, arith}
use Rattle.std.specs.Prelude.{ℤ}
use Rattle.rv_meaning.specs.declared.instr.Instr.{Instr}
use Rattle.rv_meaning.specs.Words.{word}
use Rattle.pli_typing.specs.TypedTree as Y
use Rattle.pli_meaning.specs.Operations.{calculated}
use Rattle.pli_meaning.specs.StorageState.{State}
use Rattle.pli_meaning.specs.Raising as R
use Rattle.pli_meaning.specs.Raising.{Around}
use Rattle.pli_serving.specs.ServiceState.{Services}
use Rattle.pli_coding.specs.Assembly.{size_of}
use Rattle.pli_coding.specs.Environments.{Taken, is_register_left}
use Rattle.pli_coding.specs.Arithmetic.{calculated_code}
use Rattle.pli_coding.specs.Linking.{Links}
use Rattle.temporary_bounds.proofs.Takes.{none_spare}
use Rattle.run_steps.specs.Engine.{Base}
use Rattle.run_steps.specs.Items.{Linked, At}
use Rattle.run_steps.specs.Numbers.{IsWide}
use Rattle.run_steps.specs.Bodies.{Ground, Known}
use Rattle.run_steps.specs.Temporaries.{Temporaries}
use Rattle.pli_headline.proofs.Serving.{Serving}
use Rattle.pli_headline.proofs.Raising.{Routines}
use Rattle.pli_headline.proofs.Operators.{Gone, paired, sum_piece, difference_piece}
use Rattle.pli_headline.proofs.Products.{product_piece}
use Rattle.pli_headline.proofs.Quotients.{quotient_piece}
use Rattle.pli_headline.proofs.Evaluations.{number_kind, Operates}
use Rattle.run_steps.specs.Reach.{Family, Aims, Comes, Closed}

pub calculated_piece : {links : Links} {code : List Instr} {i : ℕ} {g : Ground} {v : Services} {h t : ℕ → ℕ} {s : State} {aims : Aims ℤ} (operator : Y.ArithmeticOperator) (closed : Closed code aims) (routines : Routines links code) (temps : Temporaries g) (f : Family) (around : Around) (taken : Taken) (x y : ℤ) (k : ℕ) → IsWide x → IsWide y → (is_register_left taken ≡ false → taken.words < g.words) → Linked links code i (calculated_code taken operator) → Serving k s v around.line → ((b : Base) → At b i (Known g v h t (paired (word x) (word y)) b) (f b)) → Gone code g h t v s (i + size_of (calculated_code taken operator)) aims → Comes code i f v aims (R.value_of around (calculated operator x y) k s)
calculated_piece Y.Sum closed routines temps f around taken x y k = sum_piece closed routines temps f around taken x y k
calculated_piece Y.Difference closed routines temps f around taken x y k = difference_piece closed routines temps f around taken x y k
calculated_piece Y.Product closed routines temps f around taken x y k = product_piece closed routines temps f around taken x y k
calculated_piece Y.Quotient closed routines temps f around taken x y k = quotient_piece closed routines temps f around taken x y k

pub calculated_operates : {links : Links} {code : List Instr} {g : Ground} {v : Services} {s : State} {k : ℕ} (routines : Routines links code) (temps : Temporaries g) (around : Around) → Serving k s v around.line → (operator : Y.ArithmeticOperator) (x y : ℤ) → IsWide x → IsWide y → Operates number_kind links code g v s k 1 (paired (word x) (word y)) (λ taken. calculated_code taken operator) (R.value_of around (calculated operator x y))
calculated_operates {k = k} routines temps around serving operator x y wx wy =
    record {
      does = λ closed f taken room l at gone.
          calculated_piece operator closed routines temps f around taken x y k wx wy
          (λ none. let z = none_spare taken none in omega (arith, z, room)) l serving at gone;
    }
