-- What a reader of KEXINIT is told, list by list and name by name, as the record that it makes of it. Assumes nothing.
use Rattle.std.specs.Prelude.{ℕ, ◌-◌, ◌≤◌, ◌≡◌, List, [], length, get_or}
use Rattle.limits.specs.Limits.{list_count}
use Rattle.wire.specs.Parts.{bytes_at}
use Rattle.names.specs.Names.{joined}
use Rattle.names.specs.Run.{Run}
use Rattle.kexinit.specs.Reader.{open_head, open_list}
use Rattle.proposal.specs.Proposal.{Kexinit}

-- list n: its names were yielded up to the end, none answered 19, and joined they are l
pub record ListRead (p : List ℕ) (n : ℕ) (l : List ℕ) : Type 0 where
  pub names : List (List ℕ)
  pub run : Run p (open_list p n).cursor names 0
  pub list : l ≡ joined names

-- a payload that opens, with its cookie, boolean, reserved number and ten lists
pub record ReadAs (p : List ℕ) (k : Kexinit) : Type 0 where
  pub opens : (open_head p).number ≡ 0
  pub cookie : k.cookie ≡ bytes_at p (open_head p).cookie
  pub ten : length k.lists ≡ list_count
  pub lists : (n : ℕ) → 1 ≤ n → n ≤ list_count → ListRead p n (get_or k.lists (n - 1) [])
  pub follows : k.follows ≡ (open_head p).follows
  pub reserved : k.reserved ≡ (open_head p).reserved
