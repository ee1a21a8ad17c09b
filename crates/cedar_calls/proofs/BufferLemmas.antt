-- Entries whose keys were written into a buffer.
use Rattle.std.proofs.Common.{◌≡◌, Ok, Err, refl, ap}
use Rattle.cedarwood.specs.Tree.{Tree}
use Rattle.cedarwood.specs.Ranges.{entries_with}
use Rattle.cedar_calls.specs.Agreement.{IsSameBufferQuery}
use Rattle.cedar_calls.specs.Plain.{buffer_says, ended, IsMet, plain_buffer_reply, walked}
use Rattle.cedar_replies.specs.Replies.{IsBufferReply}
use Rattle.cedar_replies.specs.declared.question.BufferQuery.{BufferQuery}
use Rattle.cedar_replies.specs.declared.question.BufferQuery.TheVariants as buffer_query
use Rattle.cedar_replies.specs.declared.answer.BufferReply.{BufferReply}
use Rattle.cedar_replies.specs.declared.answer.BufferReply.TheVariants as buffer_reply
use Rattle.cedar_replies.proofs.CollectLemmas.{short}

-- what is returned is what the tree says
pub buffer_goes : {A : Type 0} (t : Tree) (q : BufferQuery) (a : BufferReply A) → IsBufferReply t q a → IsMet (plain_buffer_reply a) → plain_buffer_reply a ≡ buffer_says t q
buffer_goes t q buffer_reply.NoBuffer h met = absurd (met tt)
buffer_goes t (buffer_query.First room) (buffer_reply.End (Ok o)) h met = ap ended h
buffer_goes t (buffer_query.First room) (buffer_reply.End (Err e)) h met = absurd (met (short e h.0))
buffer_goes t (buffer_query.Last room) (buffer_reply.End (Ok o)) h met = ap ended h
buffer_goes t (buffer_query.Last room) (buffer_reply.End (Err e)) h met = absurd (met (short e h.0))
buffer_goes t (buffer_query.EntriesWith prefix room) (buffer_reply.Entries (Ok v)) h met = ap walked h
buffer_goes t (buffer_query.EntriesWith prefix room) (buffer_reply.Entries (Err e)) h met = absurd (met (short e h.0))
buffer_goes t (buffer_query.ByCursor prefix) (buffer_reply.Entries (Ok v)) h met = ap walked h
buffer_goes t (buffer_query.ByCursor prefix) (buffer_reply.Entries (Err e)) h met = absurd (met (short e h.0))
buffer_goes t q a h met = absurd h

-- of the same question the tree says the same
pub buffer_alike : (t : Tree) (q r : BufferQuery) → IsSameBufferQuery q r → buffer_says t q ≡ buffer_says t r
buffer_alike t (buffer_query.First room) (buffer_query.First other) h = refl
buffer_alike t (buffer_query.Last room) (buffer_query.Last other) h = refl
buffer_alike t (buffer_query.EntriesWith k room) (buffer_query.EntriesWith l other) h = ap (λ x. walked (entries_with t x)) h
buffer_alike t (buffer_query.ByCursor k) (buffer_query.ByCursor l) h = ap (λ x. walked (entries_with t x)) h
buffer_alike t q r h = absurd h
