-- Lengths of INIT and REPLY. Assumes nothing.
use Prim.Native.Nat.{ℕ, ◌+◌}
use mathlib.Core.Path.{◌≡◌}
use mathlib.Core.List.{List, [], ◌∷◌}
use native.Mathlib.Omega.{arith}
use lib.ListN.{length}
use Rattle.wire.proofs.StringsLaws.{length_strings}
use Rattle.messages.specs.Messages.{init_bytes, reply_bytes}

pub length_init : (c : List ℕ) → length (init_bytes c) ≡ 5 + length c
unfolding init_bytes
length_init c = omega (arith, length_strings c [])

pub length_reply : (ks s g : List ℕ) → length (reply_bytes ks s g) ≡ 13 + length ks + length s + length g
unfolding reply_bytes
length_reply ks s g = omega (arith, length_strings ks (s ∷ g ∷ []), length_strings s (g ∷ []), length_strings g [])
