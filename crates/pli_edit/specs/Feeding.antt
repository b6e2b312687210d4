-- A feed that is read one piece behind another, and the input that this tells of.
use Rattle.std.specs.Prelude.{◌≡◌, ◌≤◌, ◌<◌, ℕ, ◌+◌, ◌-◌, Bool, true, false, List, [], ◌∷◌, ◌++◌, length, drop}
use Rattle.pli_edit.specs.Histories.{History}
use Rattle.pli_edit.specs.declared.feed.Standing.{Standing}
use Rattle.pli_edit.specs.declared.feed.Standing.TheVariants as S

-- what a feed gave, how it stands with it, and how many reads may still be made
pub record Fed : Type 0 where
  pub history : History
  pub standing : Standing
  pub left : ℕ

-- the bytes that aren't taken yet of what a feed gave
pub record Buffered : Type 0 where
  pub fed : Fed
  pub pending : List ℕ

-- 2^30 reads are made at most
abbrev pub first_fed : History → Fed
first_fed h = record { history = h; standing = S.Open; left = 1073741824 }

-- what a read comes to; the last one isn't made, since none is left
pub data Reading : Type 0 where
  Gave : (bytes : List ℕ) → Reading
  Broke : Reading
  NotMade : Reading

abbrev pub bytes_of : Reading → List ℕ
bytes_of (Gave bytes) = bytes
bytes_of Broke = []
bytes_of NotMade = []

-- a read that gave nothing tells of the end
abbrev pub standing_behind : List ℕ → Standing
standing_behind [] = S.Ended
standing_behind (b ∷ bs) = S.Open

abbrev pub behind : Reading → Fed → Fed
behind (Gave bytes) f = record {
  history = record {
    failures = f.history.failures;
    answers = f.history.answers ++ length bytes ∷ [];
    bytes =
        f.history.bytes ++ bytes;
  };
  standing = standing_behind bytes;
  left = f.left - 1;
}
behind Broke f = record {
  history = record { failures = f.history.failures + 1; answers = f.history.answers; bytes = f.history.bytes };
  standing = S.Broken;
  left = f.left - 1;
}
behind NotMade f = record { history = f.history; standing = S.Spent; left = f.left }

-- 4,096 bytes are asked for
abbrev pub MayCome : Reading → Fed → Type 0
MayCome (Gave bytes) f = (0 < f.left) × (length bytes ≤ 4096)
MayCome Broke f = 0 < f.left
MayCome NotMade f = f.left ≡ 0

-- reads that are made one behind another, each where the bytes that aren't taken want it, and none behind the end or a
-- failure
abbrev pub Reads : (wants : List ℕ → Bool) → (pending : List ℕ) → List Reading → Fed → Fed → Type 0
Reads wants pending [] a b = b ≡ a
Reads wants pending (r ∷ rs) a b = (wants pending ≡ true) × (a.standing ≡ S.Open) × MayCome r a ×
    Reads wants (pending ++ bytes_of r) rs (behind r a) b

-- the bytes that reads gave
abbrev pub gained : List Reading → List ℕ
gained [] = []
gained (r ∷ rs) = bytes_of r ++ gained rs

-- ---- inputs that agree with what was read

-- what an input has behind what was read
abbrev pub to_come : Fed → (all : List ℕ) → List ℕ
to_come f all = drop (length f.history.bytes) all

-- an input begins with what was read, and that is all where the end was seen
abbrev pub Agrees : Fed → (all : List ℕ) → Type 0
Agrees f all = (all ≡ f.history.bytes ++ to_come f all) × (f.standing ≡ S.Ended → to_come f all ≡ [])

abbrev pub is_open : Standing → Bool
is_open S.Open = true
is_open S.Ended = false
is_open S.Broken = false
is_open S.Spent = false

-- no read follows any more, and each call answers the fault
abbrev pub is_broken : Standing → Bool
is_broken S.Open = false
is_broken S.Ended = false
is_broken S.Broken = true
is_broken S.Spent = true
