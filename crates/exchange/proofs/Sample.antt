-- Sample calls: for each role and method a list that completes an exchange, one that completes two, and for any number one that completes so many, so
-- that demand 3 is not about nothing. Assumes nothing.
use Prim.Native.Nat.{ℕ, zero, suc, ◌-◌}
use mathlib.Core.List.{List, [], ◌∷◌, ◌++◌}
use mathlib.Core.Bool.{true, cond}
use lib.ListN.{replicate}
use lib.Dec.{eqb}
use Rattle.limits.specs.Limits.{k_pq_size, k_size, init_least, reply_least, client}
use Rattle.buffers.specs.Bytes.{zeros}
use Rattle.messages.specs.Messages.{init_bytes, reply_bytes}
use Rattle.methods.specs.Rows.{row_of}
use Rattle.methods.specs.declared.KForm.{KForm}
use Rattle.methods.specs.declared.KForm.TheVariants.{Mpint, Digest}
use Rattle.methods.specs.declared.Shape.{Shape}
use Rattle.methods.specs.declared.Method.{Method}
use Rattle.exchange.specs.Steps.{Call, own_c, init, reply, secret, sign, verdict}
use Rattle.exchange.specs.Again.{Turn, step, again}
use Rattle.exchange.specs.declared.Classical.TheVariants.{Given}
use Rattle.exchange.specs.declared.Kem.{Kem}
use Rattle.exchange.specs.declared.Kem.TheVariants.{Absent, Done}

-- a version, a KEXINIT payload, another for the exchanges after the first, and a host key or signature
abbrev pub version : List ℕ
version = 83 ∷ []

abbrev pub payload : List ℕ
payload = 20 ∷ []

abbrev pub payload' : List ℕ
payload' = 20 ∷ 1 ∷ []

abbrev pub blob : List ℕ
blob = 1 ∷ []

-- a public value of a shape: byte 4 where the classical part begins, zeros elsewhere
abbrev pub public_value : Shape → List ℕ
public_value h = zeros h.classical ++ 4 ∷ zeros (h.len - h.classical - 1)

-- what the primitives gave
abbrev pub kem_for : KForm → Kem
kem_for Mpint = Absent
kem_for Digest = Done

abbrev pub k_pq_in : KForm → List ℕ
k_pq_in Mpint = []
k_pq_in Digest = zeros k_pq_size

abbrev pub secret_call : Method → List ℕ → List ℕ → Call
secret_call r ks s = secret (Given r.x_len) (replicate r.x_len 1) (kem_for r.k_form) (k_pq_in r.k_form) ks s

-- every step of a role, in order
abbrev pub client_calls : Method → List Call
client_calls r =
    own_c (public_value r.c) init_least
    ∷ reply (reply_bytes blob (public_value r.s) blob)
    ∷ secret_call r [] []
    ∷ verdict true true k_size
    ∷ []

abbrev pub server_calls : Method → List Call
server_calls r =
    init (init_bytes (public_value r.c))
    ∷ secret_call r blob (public_value r.s)
    ∷ sign blob reply_least k_size
    ∷ []

unfoldable pub sample_calls : ℕ → ℕ → List Call
sample_calls role m = cond (eqb role client) (client_calls (row_of m)) (server_calls (row_of m))

-- the same as calls of a list
abbrev pub turns : List Call → List Turn
turns [] = []
turns (q ∷ qs) = step q ∷ turns qs

abbrev pub sample_turns : ℕ → ℕ → List Turn
sample_turns role m = turns (sample_calls role m)

-- one exchange, and then another by a second method and with another payload
abbrev pub twice_turns : ℕ → ℕ → ℕ → List Turn
twice_turns role m m' = sample_turns role m ++ again m' payload' payload' ∷ sample_turns role m'

-- one exchange, and then so many more by the same method
abbrev pub nights : ℕ → ℕ → ℕ → List Turn
nights role m zero = sample_turns role m
nights role m (suc n) = nights role m n ++ again m payload' payload' ∷ sample_turns role m
