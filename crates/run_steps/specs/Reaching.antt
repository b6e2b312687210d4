-- How code gets at the frame that holds the variables: it is the running frame, or stands in the display of that.
use Rattle.std.specs.Prelude.{◌≡◌, ℕ, ◌+◌, ◌*◌, List, [], ◌++◌, Bool, true, false, cond}
use Rattle.rv_meaning.specs.declared.instr.Register.{Register}
use Rattle.rv_meaning.specs.Memory.{load}
use Rattle.pli_coding.specs.Registers.{frame_register, u3}
use Rattle.pli_coding.specs.Assembly.{Code}
use Rattle.pli_coding.specs.Instructions.{load_word}
use Rattle.pli_coding.specs.Frames.{display}
use Rattle.run_steps.specs.Engine.{Base, address}
use Rattle.run_steps.specs.Bodies.{Ground, PlaceOf}

-- ---- the frame of the variables

-- the running frame is that frame, or knows it
abbrev pub Reaches : Bool → (level : ℕ) → Ground → (base : ℕ) → Type 0
Reaches true level g base = g.frame ≡ base
Reaches false level g base =
    PlaceOf g (display level) (g.frame + (144 + 4 * level))
    × ((t : ℕ → ℕ) (b : Base) (m : List ℕ) → g.memory t b m → load 4 m (g.frame + (144 + 4 * level)) ≡ b.at + base)

-- where it isn't the running one its address comes into a register
abbrev pub found_by : Bool → (level : ℕ) → Code
found_by q level = cond q [] (load_word u3 frame_register (display level)) ++ []

abbrev pub register_by : Bool → Register
register_by q = cond q frame_register u3
