-- The length of the last line, which a text makes longer or begins anew.
use Rattle.std.specs.Prelude.{ℕ, ◌+◌, ◌==◌, List, [], ◌∷◌, if◌then◌else◌}

abbrev pub line_over : ℕ → List ℕ → ℕ
line_over line [] = line
line_over line (b ∷ bs) = line_over (if b == 10 then 0 else line + 1) bs
