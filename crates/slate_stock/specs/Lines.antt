-- The lines of the program, and what they are answered from the start.
--     name_of t, pair_in t u, parties_in a t u      the name that a token is, and the names that two are, and three
--     parties_of p asset      an asset, and two names
--     issue_of p amount, pay_of p amount, trade_of p quantity price      the order of these names and numbers, where these are some
--     issue_in a t n, pay_in a t u n, trade_in a t u n m      the order that these tokens mean
--     read_issue ts, read_pay ts, read_trade ts, read_total ts, line_behind w ts      the line that tokens mean behind its word
--     line_of ts, read_line bytes      the line that tokens mean, and bytes
--     is_stock_line bytes      a line that is silent or means something
--     Books, opening_books n      the amounts, the keys that were put, and the newest sequence
--     books_total b asset      the sum of an asset's balances
--     moved b o      the books behind an order's commit
--     refusal_words e      a refusal's words
--     ok_words, refused_words e, total_words sum issued      the words of answers
--     or_exhausted o n      the refusal, or that no sequence is left behind n
--     line_step b l      the books behind a line, and the words of its answer
--     reply_of_words ws      a reply's bytes
--     after_line b line, said_line b line      of a line's bytes: the books behind it, and what is written for it
--     replies_on b ls      what is written for lines, from the books
use Rattle.std.specs.Prelude.{ℕ, ◌+◌, ◌-◌, ◌^◌, Bool, true, false, ◌||◌, ◌==◌, if◌then◌else◌, List, [], ◌∷◌, ◌++◌, map, Option, Some, None, option_map, is_some, codes, decimal, bytes_eq}
use Rattle.std.specs.List.{join_with_byte}
use Rattle.slate_types.specs.declared.error.SlateDBError.TheVariants.{SequenceExhausted}
use Rattle.slate_types.specs.Keys.{keys_set}
use Rattle.slate_language.specs.Parse.{◌>>=◌, both, only_if, read_number, tokens_of}
use Rattle.slate_language.specs.Replies.{is_silent}
use Rattle.slate_language.specs.Text.{error_words}
use Rattle.slate_stock.specs.declared.error.StockError.{StockError}
use Rattle.slate_stock.specs.declared.error.StockError.TheVariants as refusals
use Rattle.slate_stock.specs.declared.line.Parties.{Parties}
use Rattle.slate_stock.specs.declared.line.StockLine.{StockLine}
use Rattle.slate_stock.specs.declared.line.StockLine.TheVariants as lines
use Rattle.slate_stock.specs.declared.order.Order.{Order}
use Rattle.slate_stock.specs.declared.order.Order.TheVariants.{Issue, Pay, Trade}
use Rattle.slate_stock.specs.Names.{is_plain_name}
use Rattle.slate_stock.specs.Amounts.{Amounts, balances_sum, issued_key, put_amounts}
use Rattle.slate_stock.specs.Orders.{order_keys, order_moves, order_refusal}

-- ---- what bytes mean

abbrev pub name_of : List ℕ → Option (List ℕ)
name_of t = only_if (is_plain_name t) t

abbrev pub pair_in : List ℕ → List ℕ → Option (List ℕ × List ℕ)
pair_in t u = both (λ n m. (n, m)) (name_of t) (name_of u)

abbrev pub parties_of : List ℕ × List ℕ → List ℕ → Parties
parties_of p asset = record { asset = asset; one = p.0; other = p.1 }

abbrev pub parties_in : List ℕ → List ℕ → List ℕ → Option Parties
parties_in a t u = pair_in t u >>= λ p. option_map (parties_of p) (name_of a)

abbrev pub issue_of : List ℕ × List ℕ → Option ℕ → Option StockLine
issue_of p amount = option_map (λ n. lines.Order (Issue p.0 p.1 n)) amount

abbrev pub pay_of : Parties → Option ℕ → Option StockLine
pay_of p amount = option_map (λ n. lines.Order (Pay p.asset p.one p.other n)) amount

abbrev pub trade_of : Parties → Option ℕ → Option ℕ → Option StockLine
trade_of p quantity price = both (λ n m. lines.Order (Trade p.asset p.one p.other n m)) quantity price

abbrev pub issue_in : List ℕ → List ℕ → List ℕ → Option StockLine
issue_in a t n = pair_in a t >>= λ p. issue_of p (read_number n)

abbrev pub pay_in : List ℕ → List ℕ → List ℕ → List ℕ → Option StockLine
pay_in a t u n = parties_in a t u >>= λ p. pay_of p (read_number n)

abbrev pub trade_in : List ℕ → List ℕ → List ℕ → List ℕ → List ℕ → Option StockLine
trade_in a t u n m = parties_in a t u >>= λ p. trade_of p (read_number n) (read_number m)

abbrev pub read_issue : List (List ℕ) → Option StockLine
read_issue (a ∷ t ∷ n ∷ []) = issue_in a t n
read_issue _ = None

abbrev pub read_pay : List (List ℕ) → Option StockLine
read_pay (a ∷ t ∷ u ∷ n ∷ []) = pay_in a t u n
read_pay _ = None

abbrev pub read_trade : List (List ℕ) → Option StockLine
read_trade (a ∷ t ∷ u ∷ n ∷ m ∷ []) = trade_in a t u n m
read_trade _ = None

abbrev pub read_total : List (List ℕ) → Option StockLine
read_total (a ∷ []) = option_map lines.Total (name_of a)
read_total _ = None

abbrev pub line_behind : List ℕ → List (List ℕ) → Option StockLine
line_behind w ts =
    if bytes_eq w (codes "issue") then read_issue ts
    else if bytes_eq w (codes "pay") then read_pay ts
    else if bytes_eq w (codes "trade") then read_trade ts
    else if bytes_eq w (codes "total") then read_total ts
    else None

abbrev pub line_of : List (List ℕ) → Option StockLine
line_of [] = None
line_of (w ∷ ts) = line_behind w ts

abbrev pub read_line : List ℕ → Option StockLine
read_line bytes = line_of (tokens_of bytes)

abbrev pub is_stock_line : List ℕ → Bool
is_stock_line bytes = is_silent bytes || is_some (read_line bytes)

-- ---- what it is answered

pub record Books : Type 0 where
  pub amounts : Amounts
  pub keys : List (List ℕ)
  pub seq : ℕ

abbrev pub opening_books : ℕ → Books
opening_books n = record { amounts = λ k. 0; keys = []; seq = n }

abbrev pub books_total : Books → List ℕ → ℕ
books_total b asset = balances_sum b.amounts asset (keys_set b.keys)

abbrev pub moved : Books → Order → Books
moved b o = record { amounts = put_amounts b.amounts (order_moves b.amounts o); keys = order_keys o ++ b.keys; seq = b.seq + 1 }

abbrev pub refusal_words : StockError → List (List ℕ)
refusal_words refusals.SameName = codes "SameName" ∷ []
refusal_words refusals.SameAsset = codes "SameAsset" ∷ []
refusal_words refusals.TooMuch = codes "TooMuch" ∷ []
refusal_words (refusals.BadAmount k) = codes "BadAmount" ∷ k ∷ []
refusal_words (refusals.AlreadyIssued asset) = codes "AlreadyIssued" ∷ asset ∷ []
refusal_words (refusals.NotEnough k has needs) = codes "NotEnough" ∷ k ∷ decimal has ∷ decimal needs ∷ []
refusal_words (refusals.Db e) = error_words e
refusal_words (refusals.ForeignCommit n) = codes "ForeignCommit" ∷ decimal n ∷ []

abbrev pub ok_words : List (List ℕ)
ok_words = codes "ok" ∷ []

abbrev pub refused_words : StockError → List (List ℕ)
refused_words e = codes "refused" ∷ refusal_words e

abbrev pub total_words : ℕ → ℕ → List (List ℕ)
total_words sum issued = codes "total" ∷ decimal sum ∷ decimal issued ∷ []

-- where no sequence is left an order that would commit is refused
abbrev pub or_exhausted : Option StockError → ℕ → Option StockError
or_exhausted (Some e) n = Some e
or_exhausted None n = if n == 2 ^ 64 - 2 then Some (refusals.Db SequenceExhausted) else None

abbrev pub order_answer : Option StockError → Books → Order → Books × List (List ℕ)
order_answer (Some e) b o = (b, refused_words e)
order_answer None b o = (moved b o, ok_words)

abbrev pub line_step : Books → StockLine → Books × List (List ℕ)
line_step b (lines.Order o) = order_answer (or_exhausted (order_refusal b.amounts o) b.seq) b o
line_step b (lines.Total asset) = (b, total_words (books_total b asset) (b.amounts (issued_key asset)))

abbrev pub reply_of_words : List (List ℕ) → List ℕ
reply_of_words ws = join_with_byte 32 ws ++ (10 ∷ [])

-- a silent line, and one that means nothing, change and write nothing
abbrev pub after_by : Bool → Option StockLine → Books → Books
after_by true l b = b
after_by false None b = b
after_by false (Some l) b = (line_step b l).0

abbrev pub said_by : Bool → Option StockLine → Books → List ℕ
said_by true l b = []
said_by false None b = []
said_by false (Some l) b = reply_of_words (line_step b l).1

abbrev pub after_line : Books → List ℕ → Books
after_line b line = after_by (is_silent line) (read_line line) b

abbrev pub said_line : Books → List ℕ → List ℕ
said_line b line = said_by (is_silent line) (read_line line) b

abbrev pub replies_on : Books → List (List ℕ) → List ℕ
replies_on b [] = []
replies_on b (line ∷ rest) = said_line b line ++ replies_on (after_line b line) rest
