-- The part at the front of a line, as the code sees it.
use Rattle.std.specs.Prelude.{ℕ, ◌+◌, ◌≤◌, Bool, ◌||◌, IfSome, List, drop, length, take_while, Option, Some, None, Result, Ok, Err}
use Rattle.std.specs.List.{prefix_len}
use Rattle.cf_types.specs.declared.stmt.TokenKind.{TokenKind}
use Rattle.cf_types.specs.declared.stmt.TokenKind.TheVariants as kind
use Rattle.config_rules.specs.Cut.{Part, Space, Comment, Quoted, Chunk, Mark, first_part, is_chunk_byte, is_mark_byte, is_space, is_text_byte, quoted_part}
use Rattle.cf_lexer.specs.declared.front.Front.{Front}
use Rattle.cf_lexer.specs.declared.front.Span.{Span}

-- a part of this length, with its token
abbrev pub front : ℕ → Option Span → Front
front len token = record { len = len; token = token }

-- a token by its place in its part
abbrev pub span : TokenKind → ℕ → ℕ → Span
span k start end = record { kind = k; start = start; end = end }

-- what a part is to the code: a space or a comment has no token, and that of a string is without its quotes
abbrev pub front_of : Part → Front
front_of (Space c) = front 1 None
front_of (Comment bytes) = front (length bytes + 1) None
front_of (Quoted bytes) = front (length bytes + 2) (Some (span kind.Text 1 (length bytes + 1)))
front_of (Chunk bytes) = front (length bytes) (Some (span kind.Chunk 0 (length bytes)))
front_of (Mark bytes) = front (length bytes) (Some (span kind.Mark 0 (length bytes)))

-- a part as the code sees it, or the code of a byte
abbrev pub front_result : Result Part ℕ → Result Front ℕ
front_result (Ok part) = Ok (front_of part)
front_result (Err code) = Err code

-- the part that begins with this byte, before these
abbrev pub front_at : ℕ → List ℕ → Result Front ℕ
front_at c cs = front_result (first_part c cs)

-- a string after its first quote, up to the end of this line
abbrev pub quoted_front : List ℕ → Result Front ℕ
quoted_front line = front_result (quoted_part (take_while is_text_byte line) (drop (prefix_len is_text_byte line) line))

-- it is not empty, at most so long, and its token lies in it
pub record IsWithin (f : Front) (most : ℕ) : Type 0 where
  pub some : 1 ≤ f.len
  pub fits : f.len ≤ most
  pub token : IfSome f.token (λ t. (t.start ≤ f.len) × (t.end ≤ f.len))

-- a byte that is a blank, a mark or a part of a chunk
abbrev pub is_plain_byte : ℕ → Bool
is_plain_byte c = is_space c || is_chunk_byte c || is_mark_byte c
