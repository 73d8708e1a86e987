-- What the table of methods has in common, row by row: bounds that the sizes rest on, and what its columns say of one another. Assumes nothing.
use Rattle.std.specs.Prelude.{◌+◌, ◌*◌, ◌≤◌, ◌<◌, ◌≡◌, true, cond, ◌&&◌, length, leb}
use Rattle.limits.specs.Limits.{version_most, kexinit_most, blob_most, k_size, room_least}
use Rattle.sha_words.specs.Constants.{known}
use Rattle.methods.specs.Rows.{hybrid, k_most}
use Rattle.methods.specs.declared.Method.{Method}

-- what holds of every method's row
pub record Sound (r : Method) : Type 0 where
  pub name_least : 1 ≤ r.name_len
  pub name_fits : r.name_len ≤ length r.name
  pub c_least : 1 ≤ r.c.len
  pub c_most : r.c.len ≤ 1665
  pub c_classical : r.c.classical < r.c.len
  pub s_least : 1 ≤ r.s.len
  pub s_most : r.s.len ≤ 1665
  pub s_classical : r.s.classical < r.s.len
  pub x_least : 1 ≤ r.x_len
  pub x_most : r.x_len ≤ 66
  pub digest_least : 32 ≤ r.digest_len
  pub digest_most : r.digest_len ≤ 64
  -- the digest is one of SHA-2's
  pub digest_kind : known r.digest_len ≡ true
  -- K fits its record, four length bytes included
  pub k_most_is : 4 + k_most r ≤ k_size
  -- eight lengths, both V, both I, K_S, C, S and K's body at their longest fit the least room
  pub all_most : 32 + 2 * version_most + 2 * kexinit_most + blob_most + r.c.len + r.s.len + k_most r ≤ room_least
  -- a NIST point in methods 4 to 8, on either side
  pub c_point : r.c.point ≡ leb 4 r.number && leb r.number 8
  pub s_point : r.s.point ≡ r.c.point
  -- the classical part: byte 4 and two coordinates where it is a point, else X's length
  pub c_parts : r.c.len ≡ r.c.classical + cond r.c.point (1 + 2 * r.x_len) r.x_len
  pub s_parts : r.s.len ≡ r.s.classical + cond r.s.point (1 + 2 * r.x_len) r.x_len
  -- K is a digest in methods 7 to 9
  pub k_hybrid : hybrid r.k_form ≡ leb 7 r.number
