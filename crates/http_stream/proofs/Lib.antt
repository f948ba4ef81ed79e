pub mod AnswerLemmas
pub mod ConversationLemmas
pub mod CutLemmas
pub mod HeadDecisions
pub mod LineFeeds
pub mod PieceDecisions
