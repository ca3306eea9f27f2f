use Rattle.std.proofs.Common.{◌≡◌, ℕ, ◌+◌, ◌*◌, ◌%◌, ◌^◌, ◌<◌, [], ◌∷◌, get_or, bit_xor, ap, ◌∙◌, arith}
use Rattle.plane_core.specs.Places.{lane}
use Rattle.plane_core.proofs.Blocks.{each_of_eight}
use Rattle.aes_core.proofs.ImagePlanes.{image_in_lane, last_byte_at}
use Rattle.aes_core.proofs.last_byte.images.Goals as goal

pub returns : goal.returns
returns c p b h l =
    let first = c.args.first in
    let key = c.args.key in
    let inside : lane p < 16 = omega arith in
    let place : lane (lane p) ≡ p = omega arith in
    let rows = c.last_bytes.result ∷ c.last_bytes-2.result ∷ c.last_bytes-3.result ∷ c.last_bytes-4.result ∷ c.last_bytes-5.result ∷ c.last_bytes-6.result ∷ c.last_bytes-7.result ∷ c.last_bytes-8.result ∷ [] in
    let at : (b : ℕ) → b < 8 → get_or (get_or rows b []) (lane p) 0 ≡ bit_xor ((first + b + 8 * lane (lane p)) % 2 ^ 8) key =
    each_of_eight (λ b. get_or (get_or rows b []) (lane p) 0 ≡ bit_xor ((first + b + 8 * lane (lane p)) % 2 ^ 8) key)
    (last_byte_at _ first first 0 key (lane p) inside (omega arith) c.last_bytes.ensures)
    (last_byte_at _ ((first + 1) % 2 ^ 8) first 1 key (lane p) inside (omega arith) c.last_bytes-2.ensures)
    (last_byte_at _ ((first + 2) % 2 ^ 8) first 2 key (lane p) inside (omega arith) c.last_bytes-3.ensures)
    (last_byte_at _ ((first + 3) % 2 ^ 8) first 3 key (lane p) inside (omega arith) c.last_bytes-4.ensures)
    (last_byte_at _ ((first + 4) % 2 ^ 8) first 4 key (lane p) inside (omega arith) c.last_bytes-5.ensures)
    (last_byte_at _ ((first + 5) % 2 ^ 8) first 5 key (lane p) inside (omega arith) c.last_bytes-6.ensures)
    (last_byte_at _ ((first + 6) % 2 ^ 8) first 6 key (lane p) inside (omega arith) c.last_bytes-7.ensures)
    (last_byte_at _ ((first + 7) % 2 ^ 8) first 7 key (lane p) inside (omega arith) c.last_bytes-8.ensures) in
    image_in_lane c.loaded.result c.sub_bytes.result (get_or rows b []) ((first + b + 8 * p) % 2 ^ 8) key p b h
    (c.sub_bytes.ensures (lane p) b) (c.loaded.ensures b l) (at b l ∙ ap (λ q. bit_xor ((first + b + 8 * q) % 2 ^ 8) key) place)
