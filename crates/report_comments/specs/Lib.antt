pub mod ReportComments
pub mod Comments
pub mod Laws
