use Rattle.std.proofs.Common.{◌≡◌, ℕ, List, ◌∷◌, [], length, drop, Bool, IsTrue, ap, ◌∙◌}
use Rattle.std.proofs.lemmas.List.{take_rest}
use Rattle.site_disk.specs.Bytes.{extent}
use Rattle.site_headers.specs.Headers.{HasHeader}
use Rattle.space_lane.specs.Chunks.{chunk_tail}
use Rattle.space_lane.proofs.HeaderLemmas.{header_rest, length-chunk_tail, page_header}
use Rattle.space_lane.proofs.header.is_header.Goals as goal

both : (tail page own : List ℕ) (gate : ℕ) (found : Bool) → extent 0 1 page ≡ gate ∷ [] → (gate ≡ 0 → ⊥) → own ≡ tail → length tail ≡ 4095
    → (IsTrue found → extent 1 (length own) page ≡ own) × (extent 1 (length own) page ≡ own → IsTrue found)
    → (IsTrue found → HasHeader tail page) × (HasHeader tail page → IsTrue found)
both tail page own gate found first isnt is fills means =
    (λ is_one. page_header tail page own gate first isnt (means.0 is_one) is fills, λ has. means.1 (header_rest tail page own is fills has))

pub returns-then-byte_at-ne0 : goal.returns-then-byte_at-ne0
returns-then-byte_at-ne0 c =
    let own = c.write_header.new.page in
    both (chunk_tail c.args.site c.args.space c.args.pages) c.args.page.now _ c.byte_at.result c.has_bytes.result c.byte_at.ensures c.if-byte_at-ne0.true
    (take_rest own 1 ∙ ap (drop 1) c.write_header.ensures) (length-chunk_tail c.args.site c.args.space c.args.pages) c.has_bytes.ensures
