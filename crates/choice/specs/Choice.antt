-- The choice from two KEXINIT payloads (SPECIFICATION 4.5 to 4.8). Assumes nothing.
use Rattle.std.specs.Prelude.{ℕ, zero, suc, List, [], ◌∷◌, Bool, false, Result, Ok, Err, cond, not, ◌&&◌, ◌||◌, eqb}
use Rattle.buffers.specs.Bytes.{same}
use Rattle.wire.specs.Causes.{cause_if, cause_unless, or_else}
use Rattle.wire.specs.Parts.{nothing, bytes_at}
use Rattle.wire.specs.declared.Part.{Part}
use Rattle.limits.specs.Refusals.{number_of}
use Rattle.limits.specs.declared.Refusal.{Refusal}
use Rattle.limits.specs.Limits.{list_count}
use Rattle.limits.specs.Every.{every}
use Rattle.names.specs.Names.{good_list}
use Rattle.kexinit.specs.Reader.{kexinit_cause, list_part, list_names, Head, head_by, open_head}
use Rattle.common.specs.Common.{method_in, common_part, first_of}
use Rattle.choice.specs.declared.Chosen.{Chosen}

-- what a choice hands back: 0 with the method, the host key name's place in the client's payload, and whether each side's next packet is to
-- be ignored; or the number of a refusal and none of them
pub record Choice : Type 0 where
  pub number : ℕ
  pub method : ℕ
  pub host_key : Part
  pub ignore_client : Bool
  pub ignore_server : Bool

-- k lists from number n on; all ten
abbrev pub lists_from : ℕ → ℕ → List ℕ
lists_from n zero = []
lists_from n (suc k) = n ∷ lists_from (suc n) k

abbrev pub all_lists : List ℕ
all_lists = lists_from 1 list_count

-- a payload judged with every name of its ten lists
unfoldable pub payload_cause : List ℕ → ℕ
payload_cause p = or_else (kexinit_cause p) (cause_unless (every (λ n. good_list (bytes_at p (list_part p n))) all_lists) 19 0)

-- and opened, by the first cause against it
abbrev pub judged_head : List ℕ → Head
judged_head p = head_by (payload_cause p) p

-- list 1 is kex_algorithms, list 2 is server_host_key_algorithms
abbrev pub method_from : (ℕ → Bool) → List ℕ → List ℕ → ℕ
method_from allowed client server = method_in allowed (list_names client 1) (list_names server 1)

abbrev pub host_key_from : List ℕ → List ℕ → Part
host_key_from client server = common_part (list_part client 2).start (list_names client 2) (list_names server 2)

-- why there is no choice: the client's payload, then the server's, then no common method, then no common host key name
unfoldable pub choice_cause : (ℕ → Bool) → List ℕ → List ℕ → ℕ
choice_cause allowed client server =
    or_else (payload_cause client)
    (or_else (payload_cause server)
    (cause_if (eqb (method_from allowed client server) 0) 20
    (cause_if (eqb (host_key_from client server).len 0) 21 0)))

-- whether a guessed packet is wrong: the two first names of either list differ
abbrev pub guessed_wrong : List ℕ → List ℕ → Bool
guessed_wrong client server =
    not (same (first_of (list_names client 1)) (first_of (list_names server 1)))
    || not (same (first_of (list_names client 2)) (first_of (list_names server 2)))

abbrev pub choice_refused : ℕ → Choice
choice_refused k = record { number = k; method = 0; host_key = nothing; ignore_client = false; ignore_server = false }

-- the same by an answer
abbrev pub choice_told : Result Chosen Refusal → Choice
choice_told (Ok c) = record { number = 0; method = c.method; host_key = c.host_key; ignore_client = c.ignore_client; ignore_server = c.ignore_server }
choice_told (Err e) = choice_refused (number_of e)

-- a side's next packet is to be ignored exactly when its boolean is true and the guess is wrong
unfoldable pub chosen : (ℕ → Bool) → List ℕ → List ℕ → Choice
chosen allowed client server =
    cond (eqb (choice_cause allowed client server) 0)
    (record {
      number = 0;
      method = method_from allowed client server;
      host_key = host_key_from client server;
      ignore_client = (open_head client).follows && guessed_wrong client server;
      ignore_server = (open_head server).follows && guessed_wrong client server;
    })
    (choice_refused (choice_cause allowed client server))
